use Rattle.fleet_model.proofs.Order.{distinct}
use Rattle.fleet_model.proofs.laws.one_row_of_a_place.Goals as goal

pub returns : goal.returns
returns c = distinct
