use Rattle.agg_types.proofs.Packing.{AreWithin-append}
use Rattle.agg_types.proofs.whats.Whats.push.Goals as goal

pub invariant_of-self-3 : goal.invariant_of-self-3
invariant_of-self-3 c =
    rw (c.push_reserved.ensures.items, c.reserve.ensures.items)
    (AreWithin-append _ c.self.inside.entries.items _ c.self.invariant tt)
