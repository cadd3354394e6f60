use Rattle.fleet_model.proofs.Small.{key_flat_soon, table_flat_soon}
use Rattle.fleet_model.proofs.laws.changes.a_sound_state_is_flat_soon.Goals as goal

pub returns : goal.returns
returns c = record { tables = table_flat_soon; keys = key_flat_soon }
