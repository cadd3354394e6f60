use Rattle.agg_types.proofs.Packing.{AreWithin-append}
use Rattle.agg_types.proofs.whats.Whats.push_packed.Goals as goal

pub invariant_of-self-2 : goal.invariant_of-self-2
invariant_of-self-2 c =
    rw (c.push_reserved.ensures.items, c.make_room.ensures.items)
    (AreWithin-append _ c.self.inside.entries.items _ c.self.invariant (c.packed.ensures.within _))
