use Rattle.fleet_model.proofs.Bounded.{whole_change}
use Rattle.fleet_model.proofs.laws.next_change_comes_before_flat.Goals as goal

pub returns : goal.returns
returns c = whole_change
