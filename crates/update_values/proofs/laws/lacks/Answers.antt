use Rattle.update_values.proofs.LackLemmas.{lack_zero, no_lack_read}
use Rattle.update_values.proofs.laws.lacks.Goals as goal

pub returns : goal.returns
returns c = record { zero = lack_zero; read = no_lack_read }
