use Rattle.fleet_model.proofs.KeyCounts.{keys-move}
use Rattle.fleet_model.proofs.laws.keys.keys_are_counted.Goals as goal

pub returns : goal.returns
returns c = keys-move
