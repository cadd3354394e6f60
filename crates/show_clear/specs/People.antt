-- The answers that people get.
use Rattle.std.specs.Prelude.{◌≡◌, ℕ, List, ◌++◌, Option}
use Rattle.agg_types.specs.declared.config.Filter.{Filter}
use Rattle.fleet_model.specs.Answers.{filter_of}
use Rattle.fleet_model.specs.Next.{IsNextChange}
use Rattle.fleet_model.specs.State.{State}
use Rattle.answer_text.specs.Lists.{change_ahead}
use Rattle.answer_text.specs.Tables.{shape_of}
use Rattle.show_clear.specs.Answer.{IsAnswer, IsAnswerTo}
use Rattle.show_clear.specs.declared.command.Command.{Command}
use Rattle.show_clear.specs.declared.command.Command.TheVariants.{Ask, Change as Changes}
use Rattle.show_clear.specs.declared.command.Question.{Question}
use Rattle.show_clear.specs.declared.command.Question.TheVariants.{Tables, Table, FilterKeys}
use Rattle.show_clear.specs.declared.command.Question.TheVariants.{Ranking, NextChange, OneKey}

-- the text that says what the next change of a filter is, and how far off
abbrev pub IsNextAhead : State → Filter → List ℕ → Type 0
IsNextAhead state filter text =
    (t : Option ℕ) × IsNextChange state filter t
    × (text ≡ change_ahead filter (shape_of state filter.table) state.moment t)

-- the text of a question's answer
abbrev pub TellsPeople : State → Question → List ℕ → Type 0
TellsPeople state Tables text = IsAnswerTo state Tables text
TellsPeople state (Table table sel) text = IsAnswerTo state (Table table sel) text
TellsPeople state (FilterKeys filter) text = IsAnswerTo state (FilterKeys filter) text
TellsPeople state (Ranking rank) text = IsAnswerTo state (Ranking rank) text
TellsPeople state (NextChange filter) text = IsNextAhead state (filter_of state filter) text
TellsPeople state (OneKey table key) text = IsAnswerTo state (OneKey table key) text

-- the text of a command's answer
abbrev pub IsPeoplesAnswer : State → Command → List ℕ → Type 0
IsPeoplesAnswer state (Ask question) text = TellsPeople state question text
IsPeoplesAnswer state (Changes change) text = IsAnswer state (Changes change) text

-- a command's answer was put behind what was there
abbrev pub AnswersPeople : State → Command → List ℕ → List ℕ → Type 0
AnswersPeople state command old new =
    (text : List ℕ) × (new ≡ old ++ text) × IsPeoplesAnswer state command text
