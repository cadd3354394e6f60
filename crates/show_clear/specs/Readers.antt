-- Answers by whom they are for.
use Rattle.std.specs.Prelude.{◌≡◌, ℕ, List, ◌++◌}
use Rattle.agg_types.specs.declared.config.Filter.{Filter}
use Rattle.fleet_model.specs.Answers.{filter_of}
use Rattle.fleet_model.specs.State.{State}
use Rattle.show_clear.specs.Answer.{IsAnswer, IsAnswerTo, IsNextText}
use Rattle.show_clear.specs.People.{IsNextAhead}
use Rattle.show_clear.specs.declared.answers.Readers.{Readers}
use Rattle.show_clear.specs.declared.answers.Readers.TheVariants.{Scripts, People}
use Rattle.show_clear.specs.declared.command.Command.{Command}
use Rattle.show_clear.specs.declared.command.Command.TheVariants.{Ask, Change as Changes}
use Rattle.show_clear.specs.declared.command.Question.{Question}
use Rattle.show_clear.specs.declared.command.Question.TheVariants.{Tables, Table, FilterKeys}
use Rattle.show_clear.specs.declared.command.Question.TheVariants.{Ranking, NextChange, OneKey}

-- the text that says what the next change of a filter is
abbrev pub IsNextFor : Readers → State → Filter → List ℕ → Type 0
IsNextFor Scripts state filter text = IsNextText state filter text
IsNextFor People state filter text = IsNextAhead state filter text

-- the text of a question's answer
abbrev pub IsToldTo : Readers → State → Question → List ℕ → Type 0
IsToldTo readers state Tables text = IsAnswerTo state Tables text
IsToldTo readers state (Table table sel) text = IsAnswerTo state (Table table sel) text
IsToldTo readers state (FilterKeys filter) text = IsAnswerTo state (FilterKeys filter) text
IsToldTo readers state (Ranking rank) text = IsAnswerTo state (Ranking rank) text
IsToldTo readers state (NextChange filter) text =
    IsNextFor readers state (filter_of state filter) text
IsToldTo readers state (OneKey table key) text = IsAnswerTo state (OneKey table key) text

-- the text of a command's answer
abbrev pub IsAnswerFor : Readers → State → Command → List ℕ → Type 0
IsAnswerFor readers state (Ask question) text = IsToldTo readers state question text
IsAnswerFor readers state (Changes change) text = IsAnswer state (Changes change) text

-- these were put behind what was there
abbrev pub AnswersFor : Readers → State → Command → List ℕ → List ℕ → Type 0
AnswersFor readers state command old new =
    (text : List ℕ) × (new ≡ old ++ text) × IsAnswerFor readers state command text

abbrev pub AppendsTold : Readers → State → Question → List ℕ → List ℕ → Type 0
AppendsTold readers state question old new =
    (text : List ℕ) × (new ≡ old ++ text) × IsToldTo readers state question text

abbrev pub AppendsNext : Readers → State → Filter → List ℕ → List ℕ → Type 0
AppendsNext readers state filter old new =
    (text : List ℕ) × (new ≡ old ++ text) × IsNextFor readers state filter text
