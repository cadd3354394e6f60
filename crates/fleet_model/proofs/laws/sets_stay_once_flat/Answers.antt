use Rattle.fleet_model.proofs.Flat.{sets_flat}
use Rattle.fleet_model.proofs.laws.sets_stay_once_flat.Goals as goal

pub returns : goal.returns
returns c = sets_flat
