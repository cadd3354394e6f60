use Rattle.std.proofs.Common.{◌≡◌, ◌+◌, ap, ◌∙◌, sym, subst, arith}
use Rattle.std.specs.Option.{option_map}
use Rattle.std.specs.Prelude.{count_by, is_some}
use Rattle.place_plans.specs.Forms.{links_of}
use Rattle.place_plans.specs.Links.{moments_of}
use Rattle.place_plans.specs.Plans.{cancelled}
use Rattle.place_plans.proofs.Laws.{cancelled_none, counts_cancelled}
use Rattle.place_plans.proofs.Links.{plan_of_link}
use Rattle.place_plans.proofs.plans.PlacePlans.cancel.Goals as goal

pub returns-in_default : goal.returns-in_default
returns-in_default c =
    subst (λ plans. plans ≡ cancelled plans c.args.place) c.self.view_is
    (sym (cancelled_none (moments_of (links_of c.self.inside.links)) c.args.place
    (plan_of_link (links_of c.self.inside.links) c.args.place
    ∙ ap (option_map (λ l. l.0)) (sym c.get.ensures.value ∙ c.in_default.is))))

-- there is one plan fewer
fewer : (c : goal.After-drop_plan) → count_by is_some
    (cancelled (moments_of (links_of c.self.inside.links)) c.args.place) + 1
    ≡ count_by is_some (moments_of (links_of c.self.inside.links))
fewer c = counts_cancelled (moments_of (links_of c.self.inside.links)) c.args.place c.in-Some.link.0
    (plan_of_link (links_of c.self.inside.links) c.args.place
    ∙ ap (option_map (λ l. l.0)) (sym c.get.ensures.value ∙ c.in-Some.is))

pub overflow_sub-self : goal.overflow_sub-self
overflow_sub-self c =
    let one = fewer c in
    let all = c.self.invariant.1 in
    omega arith

pub invariant_of-self : goal.invariant_of-self
invariant_of-self c =
    let one : count_by is_some
    (cancelled (moments_of (links_of c.self.inside.links)) c.args.place) + 1
    ≡ count_by is_some (moments_of (links_of c.self.inside.links)) =
    counts_cancelled (moments_of (links_of c.self.inside.links)) c.args.place c.in-Some.link.0
    (plan_of_link (links_of c.self.inside.links) c.args.place
    ∙ ap (option_map (λ l. l.0)) (sym c.get.ensures.value ∙ c.in-Some.is)) in
    let all : c.self.inside.count ≡ count_by is_some (moments_of (links_of c.self.inside.links)) =
    c.self.invariant.1 in
    let now : count_by is_some (moments_of (links_of c.drop_plan.new.links))
    ≡ count_by is_some (cancelled (moments_of (links_of c.self.inside.links)) c.args.place) =
    ap (count_by is_some) c.drop_plan.ensures.after in
    (c.drop_plan.ensures.linked, omega arith)
