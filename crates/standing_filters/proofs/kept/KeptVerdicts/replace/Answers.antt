use Rattle.std.proofs.Common.{◌≡◌, Some, ap, sym, subst, ◌∙◌, arith, length}
use Rattle.place_index.specs.Places.{AreDistinct, in_order, key_at, revalued}
use Rattle.place_index.proofs.Ordered.{lookup-revalued}
use Rattle.standing_filters.specs.Marked.{Marking}
use Rattle.standing_filters.specs.Placed.{AreOrdered, VerdictPlaces}
use Rattle.standing_filters.specs.Plans.{Becomes}
use Rattle.standing_filters.proofs.Ordered.{length_revalued, ordered_revalued}
use Rattle.standing_filters.proofs.Placing.{becomes_found}
use Rattle.standing_filters.proofs.kept.KeptVerdicts.replace.Goals as goal

pub invariant_of-self : goal.invariant_of-self
invariant_of-self c =
    let old = c.self.inside.verdicts.places in
    let order = c.self.inside.order.places in
    let at = c.args.at in
    let held = c.self.invariant in
    let same : length c.replace.new.self.places ≡ length old =
    ap (λ (l : VerdictPlaces). length l) c.replace.ensures.after ∙ length_revalued old at
    c.args.verdict in (
      subst (λ (l : VerdictPlaces). AreOrdered l order) (sym c.replace.ensures.after)
          (ordered_revalued old order at c.args.verdict held.0
          (subst AreDistinct c.replace.ensures.after c.replace.ensures.distinct)),
      omega (held.1, c.replace.ensures.room, arith),
      omega (held.2, same, arith),
    )

pub returns-clause-becomes : goal.returns-clause-becomes
returns-clause-becomes c = λ key own.
    let old = c.self.inside.verdicts.places in
    let same : old ≡ c.args.self.now.places = ap (λ (m : Marking). m.places) c.self.view_is in
    let there = ap (λ (l : VerdictPlaces). key_at l c.args.at) same ∙ own in
    subst (λ (l : VerdictPlaces). Becomes key c.args.verdict (in_order l)
    (in_order c.replace.new.self.places)) same
    (subst (λ (l : VerdictPlaces). Becomes key c.args.verdict (in_order old) (in_order l))
    (sym c.replace.ensures.after)
    (becomes_found key (Some c.args.verdict) (in_order old)
    (in_order (revalued old c.args.at c.args.verdict))
    (lookup-revalued old c.args.at key c.args.verdict c.self.invariant.0.distinct there)))
