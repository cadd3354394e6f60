use Rattle.fleet_model.proofs.Older.{older_out}
use Rattle.fleet_model.proofs.laws.older_sessions_stay_out.Goals as goal

pub returns : goal.returns
returns c = older_out
