use Rattle.std.proofs.Common.{ap, ◌∙◌, sym, subst, arith}
use Rattle.place_index.proofs.Leading.{index-kept}
use Rattle.place_index.specs.Places.{filled}
use Rattle.place_index.specs.Slots.{held}
use Rattle.place_index.specs.Reach.{IsIndex}
use Rattle.place_index.proofs.index.PlaceIndex.reserve.Goals as goal

pub invariant_of-self-in_err-reserve-2 : goal.invariant_of-self-in_err-reserve-2
invariant_of-self-in_err-reserve-2 g c =
    let same = c.reserve.ensures.same in (
      subst (λ places. IsIndex g.K.Ord.cmp g.K.IndexKey.hashed c.reserve-2.new.self places)
          (sym same) (index-kept c.self.inside.reach c.reserve-2.new.self
          (held g.K.IndexKey.is_blank c.self.inside.slots) c.self.invariant.0
          (λ k q is. c.reserve-2.ensures.others k q)),
      record {
        counted = c.self.invariant.1.counted ∙ ap filled (sym same);
        within = omega (arith, c.self.invariant.1.within, c.reserve.ensures.room);
        spared = omega (arith, c.self.invariant.1.spared, c.reserve-2.ensures.spare);
      },
    )

pub invariant_of-self-2 : goal.invariant_of-self-2
invariant_of-self-2 g c =
    let same = c.reserve.ensures.same in (
      subst (λ places. IsIndex g.K.Ord.cmp g.K.IndexKey.hashed c.reserve-2.new.self places)
          (sym same) (index-kept c.self.inside.reach c.reserve-2.new.self
          (held g.K.IndexKey.is_blank c.self.inside.slots) c.self.invariant.0
          (λ k q is. c.reserve-2.ensures.others k q)),
      record {
        counted = c.self.invariant.1.counted ∙ ap filled (sym same);
        within = c.in_ok-reserve.ensures.ok;
        spared = c.in_ok-reserve-2.ensures.ok;
      },
    )
