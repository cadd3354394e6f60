use Rattle.fleet_model.proofs.Order.{live}
use Rattle.fleet_model.proofs.laws.rows_in_force_live.Goals as goal

pub returns : goal.returns
returns c = live
