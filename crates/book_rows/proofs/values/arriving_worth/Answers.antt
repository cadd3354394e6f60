use Rattle.std.proofs.Common.{refl}
use Rattle.agg_types.specs.Whats.{lent_cells}
use Rattle.book_rows.proofs.Placing.{worth_placed, worth_unstored}
use Rattle.book_rows.proofs.values.arriving_worth.Goals as goal

pub returns-in_default : goal.returns-in_default
returns-in_default c =
    worth_unstored c.args.col 0 c.args.cols.now (lent_cells c.args.cells) c.found_in.result
    c.found_in.ensures.place c.in_default.is

pub returns-in-None : goal.returns-in-None
returns-in-None c =
    worth_placed c.args.col 0 c.args.cols.now (lent_cells c.args.cells) c.found_in.result
    c.in-Some.place c.in-Some.period c.get.result c.found_in.ensures.place c.in-Some.is
    c.get.ensures 0 (rw c.in-None.is refl)

pub returns-in-Some-get : goal.returns-in-Some-get
returns-in-Some-get c =
    worth_placed c.args.col 0 c.args.cols.now (lent_cells c.args.cells) c.found_in.result
    c.in-Some.place c.in-Some.period c.get.result c.found_in.ensures.place c.in-Some.is
    c.get.ensures c.arriving_cell.result (rw c.in-Some-get.is c.arriving_cell.ensures)
