use Rattle.fleet_model.proofs.Changes.{only_change}
use Rattle.fleet_model.proofs.laws.next_change_is_one.Goals as goal

pub returns : goal.returns
returns c = only_change
