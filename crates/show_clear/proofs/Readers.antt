-- What is answered to scripts, and to people.
use Rattle.std.proofs.Common.{ℕ, List}
use Rattle.fleet_model.specs.State.{State}
use Rattle.show_clear.specs.Answer.{Answers, IsAnswer}
use Rattle.show_clear.specs.People.{AnswersPeople, IsPeoplesAnswer}
use Rattle.show_clear.specs.Readers.{AnswersFor, IsAnswerFor}
use Rattle.show_clear.specs.declared.answers.Readers.TheVariants.{Scripts, People}
use Rattle.show_clear.specs.declared.command.Command.{Command}
use Rattle.show_clear.specs.declared.command.Command.TheVariants.{Ask, Change as Changes}
use Rattle.show_clear.specs.declared.command.Question.TheVariants.{Tables, Table, FilterKeys}
use Rattle.show_clear.specs.declared.command.Question.TheVariants.{Ranking, NextChange, OneKey}

for_scripts : (state : State) (command : Command) (text : List ℕ)
    → IsAnswerFor Scripts state command text → IsAnswer state command text
for_scripts state (Ask Tables) text h = h
for_scripts state (Ask (Table table sel)) text h = h
for_scripts state (Ask (FilterKeys filter)) text h = h
for_scripts state (Ask (Ranking rank)) text h = h
for_scripts state (Ask (NextChange filter)) text h = h
for_scripts state (Ask (OneKey table key)) text h = h
for_scripts state (Changes change) text h = h

for_people : (state : State) (command : Command) (text : List ℕ)
    → IsAnswerFor People state command text → IsPeoplesAnswer state command text
for_people state (Ask Tables) text h = h
for_people state (Ask (Table table sel)) text h = h
for_people state (Ask (FilterKeys filter)) text h = h
for_people state (Ask (Ranking rank)) text h = h
for_people state (Ask (NextChange filter)) text h = h
for_people state (Ask (OneKey table key)) text h = h
for_people state (Changes change) text h = h

pub answers_scripts : (state : State) (command : Command) (old new : List ℕ)
    → AnswersFor Scripts state command old new → Answers state command old new
answers_scripts state command old new h = (h.0, h.1, for_scripts state command h.0 h.2)

pub answers_people : (state : State) (command : Command) (old new : List ℕ)
    → AnswersFor People state command old new → AnswersPeople state command old new
answers_people state command old new h = (h.0, h.1, for_people state command h.0 h.2)
