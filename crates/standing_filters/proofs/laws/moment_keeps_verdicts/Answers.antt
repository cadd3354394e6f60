use Rattle.standing_filters.proofs.Lawful.{moment_keeps_verdicts}
use Rattle.standing_filters.proofs.laws.moment_keeps_verdicts.Goals as goal

pub returns : goal.returns
returns c = moment_keeps_verdicts
