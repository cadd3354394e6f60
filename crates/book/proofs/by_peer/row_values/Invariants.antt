use Rattle.std.proofs.Common.{◌≡◌, map, take}
use Rattle.agg_types.specs.Col.{all_cols}
use Rattle.fleet_model.specs.Keys.{row_worth}
use Rattle.book_rows.specs.Shown.{as_arrival}
use Rattle.book_rows.proofs.Columns.{among}
use Rattle.book.proofs.by_peer.row_values.Given as goal

-- the columns so far have their values, and all others nothing
abbrev pub invariant-loop-stored : goal.invariant-loop-stored
invariant-loop-stored l = l.values
    ≡ map (among (λ col. row_worth l.cols col l.t (as_arrival l.row)) (take l.stored-index l.cols))
    all_cols
