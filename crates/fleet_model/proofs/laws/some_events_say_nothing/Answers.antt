use Rattle.fleet_model.proofs.Unchanged.{after_nothing}
use Rattle.fleet_model.proofs.laws.some_events_say_nothing.Goals as goal

pub returns : goal.returns
returns c = after_nothing
