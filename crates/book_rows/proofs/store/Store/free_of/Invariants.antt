use Rattle.std.proofs.Common.{◌≡◌, ◌-◌, nat_lt}
use Rattle.std.specs.List.{count_by}
use Rattle.book_rows.proofs.store.Store.free_of.Given as goal

-- what is left beside the rows of the first tables
abbrev pub invariant-loop-table : goal.invariant-loop-table
invariant-loop-table l = l.free ≡ l.most - count_by (λ row. nat_lt row.0.table l.table) l.self.rows
