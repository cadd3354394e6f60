use Rattle.std.proofs.Common.{◌∙◌, map}
use Rattle.fleet_model.specs.Named.{keys_named}
use Rattle.fleet_core.proofs.Telling.{one_more_done}
use Rattle.fleet_core.proofs.sets.sets_of.Goals as goal

pub loop-table-preserved : goal.loop-table-preserved
loop-table-preserved c =
    rw c.in_ok-push.ensures.items
    (one_more_done (λ set. map (λ key. key.now) set.items)
    (λ table. keys_named c.args.book.now table.name) c.loop-table.sets.items
    c.in_ok-keys_named.field-0 c.args.pushed.now c.loop-table.table-index c.table-item.result
    c.loop-table-test.true c.table-item.is
    (rw c.as_slice.ensures at c.in_ok-keys_named.ensures) ∙ c.loop-table.invariant)
