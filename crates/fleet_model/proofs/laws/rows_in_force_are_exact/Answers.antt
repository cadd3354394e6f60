use Rattle.fleet_model.proofs.Positions.{in_force_from, shown_from}
use Rattle.fleet_model.proofs.laws.rows_in_force_are_exact.Goals as goal

pub returns : goal.returns
returns c = record { put = in_force_from; found = shown_from }
