use Rattle.fleet_model.proofs.Runs.{uncounted}
use Rattle.fleet_model.proofs.laws.uncounted_events_change_nothing.Goals as goal

pub returns : goal.returns
returns c = uncounted
