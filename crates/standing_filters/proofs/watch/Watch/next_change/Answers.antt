use Rattle.std.proofs.Common.{ap, subst, sym, ◌∙◌}
use Rattle.place_plans.specs.Plans.{plan_at}
use Rattle.standing_filters.specs.Placed.{change_in}
use Rattle.standing_filters.specs.Plans.{IsFirstOf, Watching}
use Rattle.standing_filters.proofs.Planning.{first_is, first_same}
use Rattle.standing_filters.proofs.watch.Watch.next_change.Goals as goal

pub returns-then-is_lost : goal.returns-then-is_lost
returns-then-is_lost c =
    first_is c.args.self.now.places c.first_change.result c.requires.distinct
    (subst (λ (w : Watching). IsFirstOf (change_in w.places) c.first_change.result) c.self.view_is
    c.first_change.ensures)

pub returns : goal.returns
returns c =
    let w = c.args.self.now in
    let known = ap (λ (w : Watching). w.plans.lost) (sym c.self.view_is) ∙ sym c.is_lost.ensures
    ∙ c.if-is_lost.false in
    first_is w.places c.next_at.result c.requires.distinct
    (first_same (plan_at w.plans.moments) (change_in w.places) c.next_at.result
    (c.requires.planned known)
    (subst (λ (w : Watching). IsFirstOf (plan_at w.plans.moments) c.next_at.result) c.self.view_is
    c.next_at.ensures))
