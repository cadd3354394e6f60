use Rattle.period_rate.proofs.Moments.{value_at-arrived}
use Rattle.period_rate.proofs.rate.Rate.arrive.Goals as goal

pub returns-clause-value : goal.returns-clause-value
returns-clause-value c t =
    rw (c.saturating_sub.ensures, c.from.ensures) (value_at-arrived c.args.period c.args.elapsed
    c.args.cur c.args.prev c.args.now t)
