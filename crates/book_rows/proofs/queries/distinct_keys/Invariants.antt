use Rattle.std.proofs.Common.{◌≡◌, ◌++◌}
use Rattle.std.specs.Prelude.{filter, map}
use Rattle.std.specs.List.{dedup}
use Rattle.fleet_model.specs.Moments.{is_live}
use Rattle.fleet_model.specs.Values.{same_key}
use Rattle.book_frame.specs.Distinct.{to_come}
use Rattle.book_rows.specs.Shown.{as_arrival}
use Rattle.book_rows.proofs.queries.distinct_keys.Given as goal

abbrev pub invariant-loop-key : goal.invariant-loop-key
invariant-loop-key l =
    map (λ key. key.now) l.keys.items
    ++ to_come l.last (map (λ s. s.0.0) (filter (λ s. is_live l.t (as_arrival s.1))
    l.key-iterator))
    ≡ dedup same_key (map (λ s. s.0.0) (filter (λ s. is_live l.t (as_arrival s.1)) l.fn.rows))
