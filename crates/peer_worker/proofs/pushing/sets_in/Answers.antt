use Rattle.peer_worker.proofs.Tellings.{sets_more}
use Rattle.peer_worker.proofs.pushing.sets_in.Goals as goal

pub loop-table-preserved : goal.loop-table-preserved
loop-table-preserved c =
    sets_more _ c.args.book.now c.args.pushed.now c.loop-table.table-index c.table-item.result
    c.loop-table.sets.items c.push.new.self.items c.in_ok-keys_named.field-0 c.loop-table-test.true
    c.table-item.is c.in_ok-push.ensures.items
    (rw c.as_slice.ensures at c.in_ok-keys_named.ensures) c.loop-table.invariant
