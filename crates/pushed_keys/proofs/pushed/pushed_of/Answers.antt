use Rattle.std.proofs.Common.{◌∙◌}
use Rattle.pushed_keys.proofs.Rest.{map_more}
use Rattle.pushed_keys.proofs.pushed.pushed_of.Goals as goal

pub loop-push-preserved : goal.loop-push-preserved
loop-push-preserved c =
    rw (c.in_ok-push.ensures.items, c.in_ok-pushed_as.ensures) (map_more _ c.loop-push.pushed.items
    c.as_slice-push-items.result.now c.loop-push.push-index c.push-item.result c.loop-push-test.true
    c.push-item.is ∙ c.loop-push.invariant)
