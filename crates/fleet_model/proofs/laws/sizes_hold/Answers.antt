use Rattle.fleet_model.proofs.Sizes.{within_sizes}
use Rattle.fleet_model.proofs.Together.{within_bound}
use Rattle.fleet_model.proofs.laws.sizes_hold.Goals as goal

pub returns : goal.returns
returns c = record { sizes = within_sizes; bound = within_bound }
