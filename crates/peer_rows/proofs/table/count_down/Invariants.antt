use Rattle.std.proofs.Common.{◌≡◌, ℕ, ◌+◌, ◌≤◌, get_or}
use Rattle.peer_rows.specs.Table.{rows_at_peer}
use Rattle.peer_rows.proofs.table.count_down.Given as goal

-- what is counted down is what has come, and what is left can be counted down
abbrev pub invariant-loop-peer : goal.invariant-loop-peer
invariant-loop-peer l = (p : ℕ)
    → (get_or l.counts p 0 + rows_at_peer p l.rows ≡ get_or l.initial.counts p 0 + rows_at_peer p
    l.peer-iterator) × (rows_at_peer p l.peer-iterator ≤ get_or l.counts p 0)
