use Rattle.standing_filters.proofs.Lawful.{touch_keeps_verdicts}
use Rattle.standing_filters.proofs.laws.touch_keeps_verdicts.Goals as goal

pub returns : goal.returns
returns c = touch_keeps_verdicts
