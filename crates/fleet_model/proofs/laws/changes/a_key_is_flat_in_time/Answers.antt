use Rattle.fleet_model.proofs.KeyChanges.{key-flat, rows-within}
use Rattle.fleet_model.proofs.laws.changes.a_key_is_flat_in_time.Goals as goal

pub returns : goal.returns
returns c = record { stays = key-flat; within = rows-within }
