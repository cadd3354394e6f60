use Rattle.std.proofs.Common.{◌≡◌, ℕ, ◌^◌, ◌-◌, List, map, max, min}
use Rattle.fleet_model.specs.Next.{flat_moment}
use Rattle.book_rows.specs.Shown.{of_peer}
use Rattle.book_machine.proofs.foreseen.rows_flat.Given as goal

abbrev pub invariant-loop-row : goal.invariant-loop-row
invariant-loop-row l =
    (table : ℕ) (key : List ℕ) → max l.flat
    (min (flat_moment l.longest (map (of_peer table key) l.row-iterator)) (2 ^ 64 - 1))
    ≡ min (flat_moment l.longest (map (of_peer table key) l.fn.rows)) (2 ^ 64 - 1)
