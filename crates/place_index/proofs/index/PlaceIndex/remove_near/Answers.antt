use Rattle.std.proofs.Common.{ap, sym, arith}
use Rattle.place_index.proofs.Filled.{filled-emptied}
use Rattle.place_index.specs.Places.{filled}
use Rattle.place_index.specs.Slots.{held}
use Rattle.place_index.proofs.index.PlaceIndex.remove_near.Goals as goal

pub overflow_sub-self : goal.overflow_sub-self
overflow_sub-self g c =
    let old = held g.K.IndexKey.is_blank c.self.inside.slots in
    let less = filled-emptied old c.args.at c.in_ok-item.item
    (sym c.in_ok-item.ensures.value) in
    omega (arith, c.self.invariant.1.counted)

pub invariant_of-self-2 : goal.invariant_of-self-2
invariant_of-self-2 g c =
    let old = held g.K.IndexKey.is_blank c.self.inside.slots in
    let new = held g.K.IndexKey.is_blank c.take.new.slots in
    let less = filled-emptied old c.args.at c.in_ok-item.item
    (sym c.in_ok-item.ensures.value) in
    let same = ap (λ p. filled p) c.in_ok-item.ensures.after in (
      c.in_ok-item.ensures.index,
      record {
        counted = omega (arith, c.self.invariant.1.counted);
        within = omega (arith, c.in_ok-item.ensures.free, c.self.invariant.1.within);
        spared = omega (arith, c.in_ok-item.ensures.spare, c.self.invariant.1.spared);
      },
    )
