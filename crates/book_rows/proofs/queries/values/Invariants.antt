use Rattle.std.proofs.Common.{◌≡◌, map, take}
use Rattle.agg_types.specs.Col.{all_cols}
use Rattle.book_rows.specs.Shown.{rows_worth}
use Rattle.book_rows.proofs.Columns.{among}
use Rattle.book_rows.proofs.queries.values.Given as goal

-- the columns so far have their values, and all others nothing
abbrev pub invariant-loop-stored : goal.invariant-loop-stored
invariant-loop-stored l = l.values
    ≡ map (among (λ col. rows_worth l.cols col l.t l.rows) (take l.stored-index l.cols)) all_cols
