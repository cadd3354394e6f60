use Rattle.fleet_model.proofs.Named.{first_of_each_name}
use Rattle.fleet_model.proofs.laws.filters_are_the_first_of_each_name.Goals as goal

pub returns : goal.returns
returns c = first_of_each_name
