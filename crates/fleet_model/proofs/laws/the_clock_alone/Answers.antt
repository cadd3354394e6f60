use Rattle.fleet_model.proofs.Falls.{sets_stay, values_stay}
use Rattle.fleet_model.proofs.laws.the_clock_alone.Goals as goal

pub returns : goal.returns
returns c = record { sets = sets_stay; values = values_stay }
