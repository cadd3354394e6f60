use Rattle.std.proofs.Common.{arith}
use Rattle.ranked.proofs.Zeros.{leading_holds, leading_near}
use Rattle.ranked.proofs.slack.zeros_for.Goals as goal

pub returns-clause-holds : goal.returns-clause-holds
returns-clause-holds c = rw c.from.ensures (leading_holds c.args.bound (omega arith))

pub returns-clause-near : goal.returns-clause-near
returns-clause-near c = rw c.from.ensures (leading_near c.args.bound (omega arith))
