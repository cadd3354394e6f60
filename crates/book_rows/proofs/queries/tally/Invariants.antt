use Rattle.std.proofs.Common.{◌≡◌, ◌+◌, ◌≤◌, [], length}
use Rattle.std.specs.Prelude.{map}
use Rattle.fleet_model.specs.Answers.{tally}
use Rattle.book_rows.specs.Shown.{of_peer}
use Rattle.book_frame.specs.Tally.{peers_of, tally_more}
use Rattle.book_rows.proofs.queries.tally.Given as goal

abbrev pub invariant-loop-row : goal.invariant-loop-row
invariant-loop-row l = record {
  so_far : tally_more l.t l.so_far (map (of_peer 0 []) l.row-iterator)
      ≡ tally l.t (map (of_peer 0 []) l.fn.rows);
  small : peers_of l.so_far + length l.row-iterator ≤ length l.fn.rows;
}
