use Rattle.fleet_model.proofs.Runs.{step_by_step}
use Rattle.fleet_model.proofs.laws.step_by_step.Goals as goal

pub returns : goal.returns
returns c = step_by_step
