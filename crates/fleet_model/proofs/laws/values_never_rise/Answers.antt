use Rattle.fleet_model.proofs.Falls.{value_falls}
use Rattle.fleet_model.proofs.laws.values_never_rise.Goals as goal

pub returns : goal.returns
returns c = λ cols state. value_falls cols state.rows
