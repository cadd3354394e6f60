use Rattle.std.proofs.Common.{◌≡◌, ◌+◌, Some, None, ap, ◌∙◌, sym, subst, arith}
use Rattle.std.proofs.Common.{length, Result, Ok, Err, OnOk, OnErr}
use Rattle.std.proofs.lemmas.List.{length-map}
use Rattle.std.specs.Option.{option_map}
use Rattle.std.specs.Prelude.{count_by, is_some}
use Rattle.place_plans.specs.Forms.{links_of}
use Rattle.place_plans.specs.Links.{moments_of}
use Rattle.place_plans.specs.Plans.{planned, plan_at}
use Rattle.place_plans.proofs.Laws.{counts_added, counts_moved, counts_within, planned_same}
use Rattle.place_plans.proofs.Laws.{length_planned}
use Rattle.place_plans.proofs.Links.{plan_of_link}
use Rattle.place_plans.proofs.plans.PlacePlans.plan.Goals as goal

either : {A B P Q R : Type 0} (r : Result A B) → OnOk r P → OnErr r Q → (P → R) → (Q → R) → R
either (Ok x) h k f g = f h
either (Err e) h k f g = g k

pub invariant_of-self : goal.invariant_of-self
invariant_of-self c =
    let all : c.self.inside.count ≡ count_by is_some (moments_of (links_of c.self.inside.links)) =
    c.self.invariant.1 in
    let is : plan_at (moments_of (links_of c.self.inside.links)) c.args.place
    ≡ Some c.in-Some-2.link.0 =
    plan_of_link (links_of c.self.inside.links) c.args.place
    ∙ ap (option_map (λ l. l.0)) (sym c.get-before.ensures.value ∙ c.in-Some-2.is) in (
      c.move_plan.ensures.linked,
      either c.move_plan.result c.move_plan.ensures.ok
          c.move_plan.ensures.err
          (λ e. all ∙ sym (ap (count_by is_some) e ∙ counts_moved
          (moments_of (links_of c.self.inside.links)) c.args.place c.in-Some-2.link.0 c.args.at is))
          (λ e. all ∙ sym (ap (count_by is_some) e)),
    )

pub overflow_add-self : goal.overflow_add-self
overflow_add-self c =
    let all : c.self.inside.count ≡ count_by is_some (moments_of (links_of c.self.inside.links)) =
    c.self.invariant.1 in
    let none : plan_at (moments_of (links_of c.self.inside.links)) c.args.place ≡ None =
    plan_of_link (links_of c.self.inside.links) c.args.place
    ∙ ap (option_map (λ l. l.0)) (sym c.get-before.ensures.value ∙ c.in-None.is) in
    let one : count_by is_some (planned (moments_of (links_of c.self.inside.links)) c.args.place
    c.args.at) ≡ count_by is_some (moments_of (links_of c.self.inside.links)) + 1 =
    counts_added (moments_of (links_of c.self.inside.links)) c.args.place c.args.at none in
    let few = counts_within (planned (moments_of (links_of c.self.inside.links)) c.args.place
    c.args.at) in
    let long = length_planned (moments_of (links_of c.self.inside.links)) c.args.place c.args.at in
    let same : length (moments_of (links_of c.self.inside.links))
    ≡ length (links_of c.self.inside.links) =
    length-map (links_of c.self.inside.links) (option_map (λ l. l.0)) in
    omega arith

pub invariant_of-self-in-None : goal.invariant_of-self-in-None
invariant_of-self-in-None c =
    let all : c.self.inside.count ≡ count_by is_some (moments_of (links_of c.self.inside.links)) =
    c.self.invariant.1 in
    let none : plan_at (moments_of (links_of c.self.inside.links)) c.args.place ≡ None =
    plan_of_link (links_of c.self.inside.links) c.args.place
    ∙ ap (option_map (λ l. l.0)) (sym c.get-before.ensures.value ∙ c.in-None.is) in (
      c.add_plan.ensures.linked,
      ap (λ n. n + 1) all
          ∙ sym (ap (count_by is_some) c.in_ok-add_plan-in-None.ensures.ok
          ∙ counts_added (moments_of (links_of c.self.inside.links)) c.args.place c.args.at none),
    )

pub returns-in-Some-clause-ok : goal.returns-in-Some-clause-ok
returns-in-Some-clause-ok c =
    let is : plan_at (moments_of (links_of c.self.inside.links)) c.args.place ≡ Some c.args.at =
    plan_of_link (links_of c.self.inside.links) c.args.place
    ∙ ap (option_map (λ l. l.0)) (sym c.get-before.ensures.value ∙ c.in-Some.is)
    ∙ ap Some c.if-link-at.true in
    subst (λ plans. plans ≡ planned plans c.args.place c.args.at) c.self.view_is
    (sym (planned_same (moments_of (links_of c.self.inside.links)) c.args.place c.args.at is))
