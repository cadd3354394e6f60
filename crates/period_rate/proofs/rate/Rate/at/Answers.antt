use Rattle.std.proofs.Common.{rules, ◌∙◌}
use Rattle.period_rate.specs.Rate.{value_at}
use Rattle.period_rate.proofs.Moments.{value_at_falls, value_at_ends}
use Rattle.period_rate.proofs.rate.Rate.at.Goals as goal

pub returns-clause-value : goal.returns-clause-value
unfolding value_at
returns-clause-value c = search rules

pub returns-clause-never_rises : goal.returns-clause-never_rises
returns-clause-never_rises c later h =
    rw (returns-clause-value c) (value_at_falls c.args.self.now c.args.t later h)

pub returns-clause-over : goal.returns-clause-over
returns-clause-over c h = returns-clause-value c ∙ value_at_ends c.args.self.now c.args.t h
