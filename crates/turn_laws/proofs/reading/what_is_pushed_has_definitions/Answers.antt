use Rattle.turn_laws.proofs.Checked.{pushed_tables}
use Rattle.turn_laws.proofs.reading.what_is_pushed_has_definitions.Goals as goal

pub returns : goal.returns
returns c = pushed_tables
