use Rattle.fleet_model.proofs.Order.{ordered}
use Rattle.fleet_model.proofs.laws.states_are_ordered.Goals as goal

pub returns : goal.returns
returns c = ordered
