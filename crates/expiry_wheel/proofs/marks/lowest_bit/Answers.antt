use Rattle.std.proofs.Common.{w64, arith}
use Rattle.std.proofs.lemmas.Nat.Bits.{bit_at-trailing_zeros}
use Rattle.expiry_wheel.proofs.marks.lowest_bit.Goals as goal

pub returns-clause-here : goal.returns-clause-here
returns-clause-here c = (bit_at-trailing_zeros w64 c.args.word (omega arith) (omega arith)).1

pub returns-clause-before : goal.returns-clause-before
returns-clause-before c = (bit_at-trailing_zeros w64 c.args.word (omega arith) (omega arith)).2
