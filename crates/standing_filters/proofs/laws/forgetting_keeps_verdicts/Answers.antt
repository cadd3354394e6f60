use Rattle.standing_filters.proofs.Lawful.{forgetting_keeps_verdicts}
use Rattle.standing_filters.proofs.laws.forgetting_keeps_verdicts.Goals as goal

pub returns : goal.returns
returns c = forgetting_keeps_verdicts
