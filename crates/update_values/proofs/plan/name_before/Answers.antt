use Rattle.std.proofs.Common.{◌≡◌, ◌∙◌, ◌≤◌, ℕ, sym, subst, arith}
use Rattle.std.proofs.lemmas.Option.{same_Some}
use Rattle.update_values.specs.Plan.{widths}
use Rattle.update_values.proofs.PlanLemmas.{widths_within}
use Rattle.update_values.proofs.plan.name_before.Goals as goal

pub returns-then-kind-count-clause-within : goal.returns-then-kind-count-clause-within
returns-then-kind-count-clause-within c = λ before is.
    let layout = c.args.layout.now in
    subst (λ (n : ℕ). n ≤ widths layout c.args.count 0)
    (sym c.widths.ensures.all ∙ same_Some _ before is)
    (widths_within layout 19 c.args.count (omega arith))
