use Rattle.fleet_model.proofs.KeyChanges.{never-empty}
use Rattle.fleet_model.proofs.laws.changes.a_key_without_rows_never_changes.Goals as goal

pub returns : goal.returns
returns c = never-empty
