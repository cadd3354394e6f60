use Rattle.fleet_model.proofs.Step.{state_more}
use Rattle.fleet_model.proofs.laws.state_after_one_more.Goals as goal

pub returns : goal.returns
returns c = state_more
