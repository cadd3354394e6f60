use Rattle.std.proofs.Common.{arith}
use Rattle.period_rate.proofs.Moments.{value_at_le}
use Rattle.period_rate.proofs.rate.Rate.most.Goals as goal

pub returns-clause-bound : goal.returns-clause-bound
returns-clause-bound c = λ t.
    let under = value_at_le c.args.self.now t in omega (arith, under)
