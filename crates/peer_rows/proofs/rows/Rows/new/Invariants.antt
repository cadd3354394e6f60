use Rattle.std.proofs.Common.{◌≡◌, replicate}
use Rattle.peer_rows.proofs.Placing.{no_rows}
use Rattle.peer_rows.proofs.rows.Rows.new.Given as goal

-- so many tables without rows
abbrev pub invariant-loop-table : goal.invariant-loop-table
invariant-loop-table l = l.empty.items ≡ replicate l._table (no_rows l.peers)
