use Rattle.std.proofs.Common.{◌≡◌, ℕ, false, subst, List, Option}
use Rattle.place_plans.specs.Plans.{is_due, plan_at}
use Rattle.place_plans.proofs.plans.PlacePlans.take_due.Goals as goal

pub returns-in_err-place-clause-none : goal.returns-in_err-place-clause-none
returns-in_err-place-clause-none c =
    rw c.from_residual.ensures
    (subst (λ (plans : List (Option ℕ)). (place : ℕ)
    → is_due c.args.t (plan_at plans place) ≡ false) c.self.view_is c.in_err-place.ensures.none)
