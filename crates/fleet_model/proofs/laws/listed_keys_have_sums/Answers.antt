use Rattle.fleet_model.proofs.Listed.{all_summed}
use Rattle.fleet_model.proofs.laws.listed_keys_have_sums.Goals as goal

pub returns : goal.returns
returns c = all_summed
