use Rattle.std.proofs.Common.{arith}
use Rattle.std.proofs.lemmas.Nat.Bits.{ones_shr}
use Rattle.ranked.proofs.slack.bound_of.Goals as goal

pub returns-then-zeros-lt128 : goal.returns-then-zeros-lt128
returns-then-zeros-lt128 c = ones_shr 128 c.args.zeros (omega arith)
