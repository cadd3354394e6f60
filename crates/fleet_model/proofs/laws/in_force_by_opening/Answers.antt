use Rattle.fleet_model.proofs.Older.{only_by_open}
use Rattle.fleet_model.proofs.laws.in_force_by_opening.Goals as goal

pub returns : goal.returns
returns c = only_by_open
