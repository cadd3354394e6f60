use Rattle.set_moves.proofs.Moving.{gives}
use Rattle.set_moves.proofs.laws.what_moved_gives_the_set_now.Goals as goal

pub returns : goal.returns
returns c = λ sets place early late changes entered left key says are turns.
    gives sets place early late changes entered left key says are turns
