use Rattle.fleet_model.proofs.KeyRows.{clear-each}
use Rattle.fleet_model.proofs.laws.rows.a_clear_takes_whole_keys.Goals as goal

pub returns : goal.returns
returns c = clear-each
