use Rattle.fleet_model.proofs.Unchanged.{after_leave}
use Rattle.fleet_model.proofs.laws.lost_sessions_keep_rows.Goals as goal

pub returns : goal.returns
returns c = after_leave
