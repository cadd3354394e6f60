use Rattle.fleet_model.proofs.Small.{flat_if_sound, flat_in_time}
use Rattle.fleet_model.proofs.laws.sets_are_flat_in_time.Goals as goal

pub returns : goal.returns
returns c = record { listed = flat_in_time; sound = flat_if_sound }
