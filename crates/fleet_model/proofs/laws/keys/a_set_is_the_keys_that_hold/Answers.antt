use Rattle.fleet_model.proofs.KeyRows.{held-keys, only-keys}
use Rattle.fleet_model.proofs.laws.keys.a_set_is_the_keys_that_hold.Goals as goal

pub returns : goal.returns
returns c = record { is_one = held-keys; only = only-keys }
