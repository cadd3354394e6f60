use Rattle.fleet_model.proofs.Cells.{column_normalized, normalized_from_zero, normalized_twice}
use Rattle.fleet_model.proofs.laws.normalized_cells_say_the_same.Goals as goal

pub returns : goal.returns
returns c =
    record { worth = column_normalized; once = normalized_twice; from_zero = normalized_from_zero }
