use Rattle.std.proofs.Common.{◌≡◌, ◌∷◌, Bool, subst}
use Rattle.listening.specs.declared.patience.Signs.{Signs}
use Rattle.listening.specs.Rounds.{is_under_way, judged}
use Rattle.listening.proofs.patience.Patience.see.Goals as goal

-- the round is judged behind the one that was seen last
pub returns-clause-verdict : goal.returns-clause-verdict
returns-clause-verdict c rounds after =
    let all = c.args.round ∷ rounds in
    subst (λ (before : Signs). c.judge.result ≡ judged (is_under_way before c.args.round.signs) all)
    after.last
    (subst (λ (way : Bool). c.judge.result ≡ judged way all) c.is_under_way-is_under_way.ensures
    (c.judge.ensures all (c.take.ensures rounds after)))
