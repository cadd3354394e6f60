use Rattle.turn_laws.proofs.ByPlace.{read_by_place}
use Rattle.turn_laws.proofs.reading.a_turn_is_read.Goals as goal

pub returns : goal.returns
returns c = read_by_place
