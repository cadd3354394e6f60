use Rattle.std.proofs.Common.{bit_and, ap, ◌∙◌, arith}
use Rattle.std.specs.Int.{bit_at}
use Rattle.std.proofs.lemmas.Nat.Bits.{ones_shl, bit_at_and, bit_at_mask_inside, bit_at_mask_below}
use Rattle.std.proofs.lemmas.Nat.Bits.{bit_at-lt}
use Rattle.expiry_wheel.proofs.marks.bits_from.Goals as goal

pub returns-clause-below : goal.returns-clause-below
returns-clause-below c = λ other h.
    ap (λ m. bit_at (bit_and c.args.word m) other) (ones_shl 64 c.args.bit (omega arith))
    ∙ bit_at_and c.args.word _ other
    ∙ omega (arith, bit_at_mask_below c.args.bit 64 other h)

pub returns-clause-from : goal.returns-clause-from
returns-clause-from c = λ other h k.
    ap (λ m. bit_at (bit_and c.args.word m) other) (ones_shl 64 c.args.bit (omega arith))
    ∙ bit_at_and c.args.word _ other
    ∙ omega (arith, bit_at_mask_inside c.args.bit 64 other h k, bit_at-lt c.args.word other)
