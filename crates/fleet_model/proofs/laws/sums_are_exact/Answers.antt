use Rattle.fleet_model.proofs.Sums.{sums}
use Rattle.fleet_model.proofs.laws.sums_are_exact.Goals as goal

pub returns : goal.returns
returns c = sums
