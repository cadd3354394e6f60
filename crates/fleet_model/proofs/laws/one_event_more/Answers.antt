use Rattle.fleet_model.proofs.Step.{one_more}
use Rattle.fleet_model.proofs.laws.one_event_more.Goals as goal

pub returns : goal.returns
returns c = one_more
