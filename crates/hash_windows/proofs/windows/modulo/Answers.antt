use Rattle.std.proofs.Common.{◌∙◌, ◌-◌, ◌%◌, ap, bit_and, sym}
use Rattle.std.proofs.lemmas.Nat.{and_mask, one_shl}
use Rattle.hash_windows.proofs.windows.modulo.Goals as goal

pub returns-then-by-power : goal.returns-then-by-power
returns-then-by-power c =
    let same = c.if-by-power.true ∙ one_shl _ 32 c.if-power-lt32.true in
    ap (λ b. bit_and c.args.hash (b - 1)) same ∙ and_mask c.args.hash _
    ∙ ap (λ b. c.args.hash % b) (sym same)
