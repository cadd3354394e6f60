use Rattle.fleet_model.proofs.Sets.{key_lists}
use Rattle.fleet_model.proofs.laws.keys_are_exact.Goals as goal

pub returns : goal.returns
returns c = key_lists
