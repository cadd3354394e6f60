use Rattle.std.proofs.Common.{◌≡◌, ℕ, List, arith, rules, sym, subst}
use Rattle.std.proofs.lemmas.Grind.{common_steps}
use Rattle.standing_filters.specs.Plans.{IsPlanOf, kept_by}
use Rattle.standing_filters.specs.Watched.{verdicts_of}
use Rattle.standing_filters.specs.declared.judging.Verdict.{Verdict}
use Rattle.standing_filters.proofs.standing.Standing.planned.Goals as goal

pub returns-clause-exact : goal.returns-clause-exact
returns-clause-exact c =
    let same : verdicts_of c.args.self.now c.args.filter ≡ kept_by c.index.result.now =
    first_of (search rules, grind (arith, common_steps)) in
    subst (λ (kept : List (List ℕ × Verdict)). IsPlanOf kept c.planned.result) (sym same)
    c.planned.ensures.exact
