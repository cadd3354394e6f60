use Rattle.std.proofs.Common.{◌≡◌, ℕ, ◌+◌, ◌≤◌, List, length, map}
use Rattle.book_machine.specs.Foreseen.{living_of}
use Rattle.book_rows.specs.Shown.{of_peer}
use Rattle.book_machine.proofs.foreseen.are_fewer.Given as goal

abbrev pub invariant-loop-row : goal.invariant-loop-row
invariant-loop-row l = record {
  so_far : (table : ℕ) (key : List ℕ) → l.live + living_of (map (of_peer table key) l.row-iterator)
      l.t ≡ living_of (map (of_peer table key) l.fn.rows) l.t;
  small : l.live + length l.row-iterator ≤ length l.fn.rows;
}
