use Rattle.std.proofs.Common.{◌∙◌, ◌∷◌, sym}
use Rattle.pushed_keys.proofs.Firsts.{none_told_first, told_first}
use Rattle.pushed_keys.proofs.stands.first_standing.Goals as goal

pub returns-in_err-mark : goal.returns-in_err-mark
returns-in_err-mark c =
    rw c.from_residual.ensures (none_told_first (λ key. key.now) c.args.set.now _
    c.in_default.len_below c.in_err-mark.ensures)

pub returns-in_default : goal.returns-in_default
returns-in_default c =
    told_first (λ key. key.now) c.args.set.now _ _ _ c.in_default.len_below c.in_ok-mark.ensures
    ∙ (λ i. sym c.told_alone.ensures i ∷ sym c.new.ensures i)
