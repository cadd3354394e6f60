use Rattle.fleet_model.proofs.Named.{counting}
use Rattle.fleet_model.proofs.laws.counting_is_of_the_list.Goals as goal

pub returns : goal.returns
returns c = counting
