use Rattle.std.proofs.Common.{◌≡◌, List, ap, sym, subst, ◌∙◌, ℕ, arith, length}
use Rattle.std.specs.Prelude.{None, slice_set}
use Rattle.place_index.specs.Places.{AreDistinct, in_order, key_at}
use Rattle.place_index.proofs.Ordered.{lookup-emptied}
use Rattle.place_order.specs.Orders.{AreByRank}
use Rattle.standing_filters.specs.Marked.{Marking}
use Rattle.standing_filters.specs.Placed.{AreOrdered, VerdictPlaces, rank_in}
use Rattle.standing_filters.specs.Plans.{Becomes}
use Rattle.standing_filters.specs.Verdicts.{out}
use Rattle.std.proofs.lemmas.List.{length-set}
use Rattle.standing_filters.proofs.Ordered.{ordered_emptied}
use Rattle.standing_filters.proofs.Placing.{becomes_found}
use Rattle.standing_filters.proofs.kept.KeptVerdicts.remove.Goals as goal

pub invariant_of-self : goal.invariant_of-self
invariant_of-self c =
    let old = c.self.inside.verdicts.places in
    let order = c.self.inside.order.places in
    let at = c.args.at in
    let held = c.self.invariant in
    let same : length c.remove-2.new.self.places ≡ length old =
    ap (λ (l : VerdictPlaces). length l) c.remove-2.ensures.after ∙ length-set old at None in (
      subst (λ (l : VerdictPlaces). AreOrdered l c.remove.new.self.places)
          (sym c.remove-2.ensures.after)
          (subst (λ (o : List ℕ). AreOrdered (slice_set old at None) o)
          (sym c.remove.ensures.removed)
          (ordered_emptied old order at held.0
          (subst (λ (o : List ℕ). AreByRank (rank_in old) o) c.remove.ensures.removed
          c.remove.ensures.ordered)
          (subst AreDistinct c.remove-2.ensures.after c.remove-2.ensures.distinct))),
      omega (held.1, c.remove-2.ensures.room, arith),
      omega (held.2, same, c.remove.ensures.room, arith),
    )

pub returns-clause-becomes : goal.returns-clause-becomes
returns-clause-becomes c = λ key own.
    let old = c.self.inside.verdicts.places in
    let same : old ≡ c.args.self.now.places = ap (λ (m : Marking). m.places) c.self.view_is in
    let there = ap (λ (l : VerdictPlaces). key_at l c.args.at) same ∙ own in
    subst (λ (l : VerdictPlaces). Becomes key out (in_order l)
    (in_order c.remove-2.new.self.places)) same
    (subst (λ (l : VerdictPlaces). Becomes key out (in_order old) (in_order l))
    (sym c.remove-2.ensures.after)
    (becomes_found key None (in_order old) (in_order (slice_set old c.args.at None))
    (lookup-emptied old c.args.at key c.self.invariant.0.distinct there)))
