use Rattle.std.proofs.Common.{◌≡◌, ◌++◌, drop, replicate}
use Rattle.peer_rows.proofs.table.count_none.Given as goal

-- so many counts are none, and the others are what they were
abbrev pub invariant-loop-peer : goal.invariant-loop-peer
invariant-loop-peer l = l.counts ≡ replicate l.peer 0 ++ drop l.peer l.fn.counts
