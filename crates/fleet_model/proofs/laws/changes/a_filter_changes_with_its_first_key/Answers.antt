use Rattle.fleet_model.proofs.KeyChanges.{first-change, no-change}
use Rattle.fleet_model.proofs.laws.changes.a_filter_changes_with_its_first_key.Goals as goal

pub returns : goal.returns
returns c = record { first = first-change; never = no-change }
