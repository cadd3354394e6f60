use Rattle.show_clear.proofs.Chosen.{holds_as_met, shown_as_taken}
use Rattle.show_clear.proofs.laws.what_is_shown_is_what_a_clear_takes.Goals as goal

pub returns-clause-conditions : goal.returns-clause-conditions
returns-clause-conditions c = holds_as_met

pub returns-clause-rows : goal.returns-clause-rows
returns-clause-rows c = shown_as_taken
