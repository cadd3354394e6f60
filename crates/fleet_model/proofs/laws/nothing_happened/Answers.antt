use Rattle.fleet_model.proofs.Order.{no_events}
use Rattle.fleet_model.proofs.laws.nothing_happened.Goals as goal

pub returns : goal.returns
returns c = no_events
