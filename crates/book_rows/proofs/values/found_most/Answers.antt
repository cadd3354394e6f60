use Rattle.book_rows.proofs.Bounding.{some_most}
use Rattle.book_rows.proofs.values.found_most.Goals as goal

pub returns-in-Some : goal.returns-in-Some
returns-in-Some c =
    rw c.in-Some.is (some_most c.most.result c.args.cols.now c.args.col c.place_of.result
    c.in-Some.rows.now c.place_of.ensures c.most.ensures)
