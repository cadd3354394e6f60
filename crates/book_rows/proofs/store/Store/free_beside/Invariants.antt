use Rattle.std.proofs.Common.{◌≡◌, ◌-◌, ◌&&◌, ◌==◌, nat_lt}
use Rattle.std.specs.List.{count_by}
use Rattle.book_rows.proofs.store.Store.free_beside.Given as goal

-- what is left beside the rows of the first peers
abbrev pub invariant-loop-peer : goal.invariant-loop-peer
invariant-loop-peer l =
    l.free ≡ l.most - count_by (λ row. (row.0.table == l.table) && nat_lt row.0.peer l.peer)
    l.self.rows
