use Rattle.std.proofs.Common.{◌≡◌, ◌≤◌, ℕ, length}
use Rattle.std.specs.Prelude.{slice_index}
use Rattle.peer_rows.specs.Most.{AreAdded}
use Rattle.peer_rows.proofs.mosts.add_each.Given as goal

abbrev pub invariant-loop-col : goal.invariant-loop-col
invariant-loop-col l = record {
  columns : length l.sums ≡ length l.fn.sums;
  sums : AreAdded l.row.cells l.fn.sums l.sums l.col;
  left : (k : ℕ) → l.col ≤ k → slice_index l.sums k ≡ slice_index l.fn.sums k;
}
