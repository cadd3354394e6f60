use Rattle.standing_filters.proofs.Lawful.{adding_goes_on}
use Rattle.standing_filters.proofs.laws.adding_goes_on.Goals as goal

pub returns : goal.returns
returns c = adding_goes_on
