use Rattle.turn_laws.proofs.Counting.{counted}
use Rattle.turn_laws.proofs.laws.ids_count_from_one.Goals as goal

pub returns : goal.returns
returns c = counted
