use Rattle.fleet_sums.proofs.Histories.{standing_can_drop_lem}
use Rattle.fleet_sums.proofs.law.standing_can_drop.Goals as goal

pub returns : goal.returns
returns c = standing_can_drop_lem
