use Rattle.fleet_model.proofs.Runs.{numbers, sessions}
use Rattle.fleet_model.proofs.laws.seats_and_sessions_are_found.Goals as goal

pub returns : goal.returns
returns c = record { numbers = numbers; sessions = sessions }
