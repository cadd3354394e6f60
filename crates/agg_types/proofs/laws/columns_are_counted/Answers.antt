use Rattle.agg_types.proofs.Columns.{ids_end}
use Rattle.agg_types.proofs.laws.columns_are_counted.Goals as goal

pub returns-clause-numbers : goal.returns-clause-numbers
returns-clause-numbers c = ids_end
