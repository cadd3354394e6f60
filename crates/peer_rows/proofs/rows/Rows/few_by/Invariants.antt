use Rattle.std.proofs.Common.{◌≤◌}
use Rattle.peer_rows.proofs.rows.Rows.few_by.Given as goal

abbrev pub invariant-loop-table : goal.invariant-loop-table
invariant-loop-table l = l.by ≤ l.fn.t
