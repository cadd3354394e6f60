use Rattle.turn_laws.proofs.Tables.{count_there}
use Rattle.turn_laws.proofs.laws.ids_count_on.Goals as goal

pub returns : goal.returns
returns c = count_there
