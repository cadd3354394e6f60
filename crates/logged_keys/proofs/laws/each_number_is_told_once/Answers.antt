use Rattle.logged_keys.proofs.Rounds.{told_once}
use Rattle.logged_keys.proofs.laws.each_number_is_told_once.Goals as goal

pub returns : goal.returns
returns c = λ first last number spans on above below.
    told_once first last number spans on above below
