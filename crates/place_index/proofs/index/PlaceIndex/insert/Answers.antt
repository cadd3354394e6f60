use Rattle.std.proofs.Common.{◌≡◌, ◌≤◌, ◌+◌, length, ap, ◌∙◌, arith}
use Rattle.place_index.proofs.Filled.{filled-laid, filled_within}
use Rattle.place_index.specs.Places.{filled}
use Rattle.place_index.specs.Slots.{held}
use Rattle.place_index.proofs.index.PlaceIndex.insert.Goals as goal

pub overflow_add-self : goal.overflow_add-self
overflow_add-self g c =
    let old = held g.K.IndexKey.is_blank c.self.inside.slots in
    let new = held g.K.IndexKey.is_blank c.lay.new.slots in
    let more : filled new ≡ filled old + 1 =
    ap (λ p. filled p) c.in_ok-at.ensures.ok
    ∙ filled-laid old c.in_ok-at.at (c.args.key, c.args.value) c.in_ok-at.ensures.bound
    c.in_ok-at.ensures.empty in
    let within : filled new ≤ length new = filled_within new in
    omega (arith, c.in_ok-at.ensures.small, c.self.invariant.1.counted)

pub invariant_of-self-2 : goal.invariant_of-self-2
invariant_of-self-2 g c =
    let old = held g.K.IndexKey.is_blank c.self.inside.slots in
    let new = held g.K.IndexKey.is_blank c.lay.new.slots in
    let more : filled new ≡ filled old + 1 =
    ap (λ p. filled p) c.in_ok-at.ensures.ok
    ∙ filled-laid old c.in_ok-at.at (c.args.key, c.args.value) c.in_ok-at.ensures.bound
    c.in_ok-at.ensures.empty in (
      c.in_ok-at.ensures.index,
      record {
        counted = omega (arith, c.self.invariant.1.counted);
        within = omega (arith, c.in_ok-at.ensures.free, c.self.invariant.1.within);
        spared = omega (arith, c.in_ok-at.ensures.spare, c.self.invariant.1.spared);
      },
    )
