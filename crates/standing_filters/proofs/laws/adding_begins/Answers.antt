use Rattle.standing_filters.proofs.Lawful.{adding_begins}
use Rattle.standing_filters.proofs.laws.adding_begins.Goals as goal

pub returns : goal.returns
returns c = adding_begins
