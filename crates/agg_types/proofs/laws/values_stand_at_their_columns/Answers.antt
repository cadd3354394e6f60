use Rattle.agg_types.proofs.Columns.{value_at_place}
use Rattle.agg_types.proofs.laws.values_stand_at_their_columns.Goals as goal

pub returns : goal.returns
returns c = value_at_place
