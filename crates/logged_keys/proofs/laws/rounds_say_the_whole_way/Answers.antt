use Rattle.logged_keys.proofs.Rounds.{whole_way}
use Rattle.logged_keys.proofs.laws.rounds_say_the_whole_way.Goals as goal

pub returns : goal.returns
returns c = λ sets place early parts says. whole_way sets place early parts says
