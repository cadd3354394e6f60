use Rattle.std.proofs.Common.{◌≡◌, ℕ, List, arith, rules, sym, subst}
use Rattle.std.proofs.lemmas.Grind.{common_steps}
use Rattle.standing_filters.specs.Plans.{kept_by}
use Rattle.standing_filters.specs.Watched.{IsFirstChange, verdicts_of}
use Rattle.standing_filters.specs.declared.judging.Verdict.{Verdict}
use Rattle.standing_filters.proofs.standing.Standing.next_change.Goals as goal

pub returns : goal.returns
returns c =
    let same : verdicts_of c.args.self.now c.args.filter ≡ kept_by c.index.result.now =
    first_of (search rules, grind (arith, common_steps)) in
    subst (λ (kept : List (List ℕ × Verdict)). IsFirstChange kept c.next_change.result) (sym same)
    c.next_change.ensures
