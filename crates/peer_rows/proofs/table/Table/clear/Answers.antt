use Rattle.std.proofs.Common.{arith, length}
use Rattle.std.proofs.lemmas.List.{with_items_is}
use Rattle.peer_rows.proofs.Kept.{kept-none}
use Rattle.peer_rows.proofs.table.Table.clear.Goals as goal

pub invariant_of-self : goal.invariant_of-self
invariant_of-self c =
    rw (with_items_is c.self.inside.counts c.count_none.new.counts (omega arith))
    (kept-none c.clear.new.self c.count_none.new.counts (length c.deref_mut.result.now)
    c.clear.ensures c.count_none.ensures)
