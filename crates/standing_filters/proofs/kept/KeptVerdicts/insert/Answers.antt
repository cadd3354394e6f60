use Rattle.std.proofs.Common.{◌≡◌, ◌+◌, ◌<◌, ◌≤◌, List, Some, length, sym, ap, subst, ◌∙◌}
use Rattle.std.proofs.Common.{ℕ, arith}
use Rattle.std.specs.Prelude.{None}
use Rattle.place_index.specs.Places.{AreDistinct, in_order, item_at, laid, IsAbsent}
use Rattle.place_index.proofs.Ordered.{absent-lookup, lookup-laid}
use Rattle.place_order.specs.Orders.{AreByRank, HasOwnRank}
use Rattle.standing_filters.specs.Marked.{Marking}
use Rattle.standing_filters.specs.Placed.{AreAlikeBut, AreOrdered, VerdictPlaces, rank_in}
use Rattle.standing_filters.specs.Plans.{Becomes, kept_at}
use Rattle.standing_filters.proofs.Ordered.{length_laid, ordered_laid, rank_own, ranks_before}
use Rattle.standing_filters.proofs.Placing.{becomes_found, laid_else, laid_here}
use Rattle.standing_filters.proofs.kept.KeptVerdicts.insert.Goals as goal

no_place : (old : VerdictPlaces) (view : Marking) (key : List ℕ) → old ≡ view.places
    → kept_at (in_order view.places) key ≡ None → IsAbsent old key
no_place old view key same none =
    absent-lookup old key (ap (λ (l : VerdictPlaces). kept_at (in_order l) key) same ∙ none)

pub insert-at-requires-clause-absent : goal.insert-at-requires-clause-absent
insert-at-requires-clause-absent c = no_place c.self.inside.verdicts.places c.args.self.now
    c.args.key
    (ap (λ (m : Marking). m.places) c.self.view_is) c.requires.none

pub insert-requires-clause-ordered : goal.insert-requires-clause-ordered
insert-requires-clause-ordered c =
    subst (λ (l : VerdictPlaces). AreByRank (rank_in l) c.self.inside.order.places)
    (sym c.insert-at.ensures.after)
    (ranks_before c.self.inside.verdicts.places c.self.inside.order.places c.insert-at.result
    c.args.key c.args.verdict c.insert-at.ensures.empty c.insert-at.ensures.bound
    c.self.invariant.0)

pub insert-requires-clause-apart : goal.insert-requires-clause-apart
insert-requires-clause-apart c =
    subst (λ (l : VerdictPlaces). HasOwnRank (rank_in l) c.insert-at.result
    c.self.inside.order.places) (sym c.insert-at.ensures.after)
    (rank_own c.self.inside.verdicts.places c.self.inside.order.places c.insert-at.result
    c.args.key c.args.verdict c.insert-at.ensures.empty c.insert-at.ensures.bound
    c.self.invariant.0 (no_place c.self.inside.verdicts.places c.args.self.now c.args.key
    (ap (λ (m : Marking). m.places) c.self.view_is) c.requires.none))

pub invariant_of-self : goal.invariant_of-self
invariant_of-self c =
    let old = c.self.inside.verdicts.places in
    let at = c.insert-at.result in
    let held = c.self.invariant in
    let there : 0 < c.self.inside.room =
    subst (λ (m : Marking). 0 < m.room) (sym c.self.view_is) c.requires.room in
    let grown : length c.insert-at.new.self.places ≤ length old + 1 =
    subst (λ (l : VerdictPlaces). length l ≤ length old + 1) (sym c.insert-at.ensures.after)
    (length_laid old at (Some (c.args.key, c.args.verdict))) in (
      subst (λ (l : VerdictPlaces). AreOrdered l c.insert.new.self.places)
          (sym c.insert-at.ensures.after)
          (ordered_laid old c.self.inside.order.places at c.args.key c.args.verdict
          c.insert-at.ensures.empty c.insert-at.ensures.bound held.0 c.insert.new.self.places
          c.insert.ensures.inserted
          (subst (λ (l : VerdictPlaces). AreByRank (rank_in l) c.insert.new.self.places)
          c.insert-at.ensures.after c.insert.ensures.ordered)
          (subst AreDistinct c.insert-at.ensures.after c.insert-at.ensures.distinct)),
      omega (held.1, c.insert-at.ensures.room, arith),
      omega (held.2, grown, c.insert.ensures.room, there, arith),
    )

pub returns-clause-own : goal.returns-clause-own
returns-clause-own c =
    ap (λ (l : VerdictPlaces). item_at l c.insert-at.result) c.insert-at.ensures.after
    ∙ laid_here c.self.inside.verdicts.places c.insert-at.result c.args.key c.args.verdict
    c.insert-at.ensures.empty c.insert-at.ensures.bound

pub returns-clause-others : goal.returns-clause-others
returns-clause-others c =
    subst (λ (l : VerdictPlaces). AreAlikeBut c.insert-at.result l c.insert-at.new.self.places)
    (ap (λ (m : Marking). m.places) c.self.view_is)
    (subst (λ (l : VerdictPlaces). AreAlikeBut c.insert-at.result c.self.inside.verdicts.places l)
    (sym c.insert-at.ensures.after)
    (laid_else c.self.inside.verdicts.places c.insert-at.result c.args.key c.args.verdict
    c.insert-at.ensures.empty c.insert-at.ensures.bound))

pub returns-clause-becomes : goal.returns-clause-becomes
returns-clause-becomes c =
    let old = c.self.inside.verdicts.places in
    let at = c.insert-at.result in
    let key = c.args.key in
    let verdict = c.args.verdict in
    let same : old ≡ c.args.self.now.places = ap (λ (m : Marking). m.places) c.self.view_is in
    let absent = no_place old c.args.self.now key same c.requires.none in
    subst (λ (l : VerdictPlaces). Becomes key verdict (in_order l)
    (in_order c.insert-at.new.self.places)) same
    (subst (λ (l : VerdictPlaces). Becomes key verdict (in_order old) (in_order l))
    (sym c.insert-at.ensures.after)
    (becomes_found key (Some verdict) (in_order old) (in_order (laid old at (Some (key, verdict))))
    (lookup-laid old at key verdict absent c.insert-at.ensures.empty)))
