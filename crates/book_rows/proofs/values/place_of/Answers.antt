use Rattle.agg_types.specs.Col.{same_col}
use Rattle.book_rows.proofs.Bounding.{place_behind, place_found}
use Rattle.book_rows.proofs.values.place_of.Goals as goal

pub returns-in-None : goal.returns-in-None
returns-in-None c =
    place_behind (λ stored. same_col stored.0 c.args.col) c.args.cols.now c.stored_at.result
    c.stored_at.ensures c.in-None.is

pub returns-in-Some : goal.returns-in-Some
returns-in-Some c =
    place_found (λ stored. same_col stored.0 c.args.col) c.args.cols.now c.stored_at.result
    c.in-Some.place c.stored_at.ensures c.in-Some.is
