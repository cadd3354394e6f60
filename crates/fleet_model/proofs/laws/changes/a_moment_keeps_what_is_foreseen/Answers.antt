use Rattle.fleet_model.proofs.KeyChanges.{change-stays, holds-stays, never-stays}
use Rattle.fleet_model.proofs.laws.changes.a_moment_keeps_what_is_foreseen.Goals as goal

pub returns : goal.returns
returns c = record { holds = holds-stays; change = change-stays; never = never-stays }
