use Rattle.standing_filters.proofs.Lawful.{first_change_is_the_sets}
use Rattle.standing_filters.proofs.laws.first_change_is_the_sets.Goals as goal

pub returns : goal.returns
returns c = first_change_is_the_sets
