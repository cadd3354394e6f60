use Rattle.fleet_model.proofs.Sets.{only_set, sets}
use Rattle.fleet_model.proofs.laws.sets_are_exact.Goals as goal

pub returns : goal.returns
returns c = record { is_one = sets; only = only_set }
