use Rattle.set_moves.proofs.Moving.{told_in, told_out}
use Rattle.set_moves.proofs.laws.what_is_told_is_so_now.Goals as goal

pub returns : goal.returns
returns c = λ sets place early late changes entered left key says are. (
  told_in sets place early late changes entered left key says are,
  told_out sets place early late changes entered left key says are,
)
