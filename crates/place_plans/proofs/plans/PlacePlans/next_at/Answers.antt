use Rattle.std.proofs.Common.{◌≡◌, ◌≤◌, ℕ, Option, None, Some, List, subst}
use Rattle.std.specs.Prelude.{IfNone, IfSome}
use Rattle.place_plans.specs.Plans.{plan_at}
use Rattle.place_plans.proofs.plans.PlacePlans.next_at.Goals as goal

pub returns-clause-least : goal.returns-clause-least
returns-clause-least c =
    subst (λ (plans : List (Option ℕ)). IfSome c.next_planned.result
    (λ at. (place u : ℕ) → plan_at plans place ≡ Some u → at ≤ u)) c.self.view_is
    c.next_planned.ensures.least

pub returns-clause-none : goal.returns-clause-none
returns-clause-none c =
    subst (λ (plans : List (Option ℕ)). IfNone c.next_planned.result
    ((place : ℕ) → plan_at plans place ≡ None)) c.self.view_is c.next_planned.ensures.none
