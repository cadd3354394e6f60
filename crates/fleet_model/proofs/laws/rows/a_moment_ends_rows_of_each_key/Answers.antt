use Rattle.fleet_model.proofs.KeyRows.{moment-each}
use Rattle.fleet_model.proofs.laws.rows.a_moment_ends_rows_of_each_key.Goals as goal

pub returns : goal.returns
returns c = moment-each
