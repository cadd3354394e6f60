-- What the lines behind `start` print.
use Rattle.std.specs.Prelude.{◌≡◌, ◌⊎◌, ℕ, ◌+◌, List, [], ◌∷◌, ◌++◌, codes, Option, None, Some}
use Rattle.std.specs.Prelude.{Ok, Err}
use Rattle.std.specs.Fmt.{decimal}
use Rattle.agg_types.specs.declared.config.Config.{Config}
use Rattle.fleet_model.specs.State.{State, state_of}
use Rattle.fleet_core.specs.Events.{events_of}
use Rattle.fleet_core.specs.Represents.{Collected}
use Rattle.fleet_core.specs.declared.step.Step.{Step}
use Rattle.fleet_core.specs.declared.step.Step.TheVariants as steps
use Rattle.line_words.specs.Reader.{left_of}
use Rattle.show_clear.specs.Answer.{IsAnswerTo}
use Rattle.show_clear.specs.Parse.{Read, command_of}
use Rattle.show_clear.specs.Refusal.{refusal_text}
use Rattle.show_clear.specs.declared.command.Command.{Command}
use Rattle.show_clear.specs.declared.command.Command.TheVariants.{Ask, Change as Changes}
use Rattle.show_clear.specs.declared.command.Change.{Change}
use Rattle.show_clear.specs.declared.command.Change.TheVariants.{Clear, AddFilter, DropFilter}
use Rattle.show_clear.specs.declared.fault.CommandFault.TheVariants as refused
use Rattle.replay.specs.Given.{Did, Given, step_given}
use Rattle.replay.specs.Meaning.{fault_text, meaning_of}
use Rattle.replay.specs.declared.ending.Ending.{Ending}
use Rattle.replay.specs.declared.ending.Ending.TheVariants.{BadScript, Done, Failed}
use Rattle.replay.specs.declared.steps.Meaning.{Meaning}
use Rattle.replay.specs.declared.steps.Meaning.TheVariants.{Nothing, Does, BadStep, Asks}

-- the fleet's answers after these steps
abbrev pub state_after : Config → ℕ → List Step → State
state_after config opening past = state_of config opening (events_of config opening past)

-- a line that only prints
abbrev pub printing : List Step → List ℕ → Given
printing past text = record { past = past; text = text; ending = None }

-- a faulty line ends the replay
abbrev pub bad_line : List Step → ℕ → List ℕ → Given
bad_line past number fault =
    record {
      past = past;
      text = codes "script line " ++ decimal number ++ fault;
      ending = Some BadScript;
    }

abbrev pub ok_if : Option Ending → List ℕ
ok_if None = codes "ok\n"
ok_if (Some ending) = []

-- a clear, or a filter that is added or dropped, is a step, and then `ok`
abbrev pub change_given : Given → Given
change_given given =
    record { past = given.past; text = given.text ++ ok_if given.ending; ending = given.ending }

-- the step that makes a change
abbrev pub step_of : Change → Step
step_of (Clear table sel) = steps.Clear table sel
step_of (AddFilter filter) = steps.AddFilter filter
step_of (DropFilter name) = steps.DropFilter name

-- what a command does: a question prints its answer, and a change is a step
abbrev pub CommandGives : Config → ℕ → List Step → Command → Given → Type 0
CommandGives config opening past (Ask question) given =
    (text : List ℕ) × IsAnswerTo (state_after config opening past) question text
    × (given ≡ printing past text)
CommandGives config opening past (Changes change) given =
    given ≡ change_given (step_given config opening past (step_of change))

-- what a line does that asks for something
abbrev pub AskGives : Config → ℕ → List Step → Read Command → Given → Type 0
AskGives config opening past (Ok command) given =
    CommandGives config opening past command given
AskGives config opening past (Err fault) given = given ≡ printing past (refusal_text fault)

-- the same, where an allocation may fail as the command is read
abbrev pub AskOrRefusal : Config → ℕ → List Step → Read Command → Given → Type 0
AskOrRefusal config opening past read given =
    AskGives config opening past read given
    ⊎ (given ≡ printing past (refusal_text refused.NoMemory))

-- what a line does, by what it says
abbrev pub MeaningGives : Meaning → Config → ℕ → List Step → ℕ → List ℕ → Given → Type 0
MeaningGives Nothing config opening past number line given = given ≡ printing past []
MeaningGives (Does step) config opening past number line given =
    given ≡ step_given config opening past step
MeaningGives (BadStep at) config opening past number line given =
    given ≡ bad_line past number (fault_text at.expected)
MeaningGives Asks config opening past number line given =
    AskOrRefusal config opening past (command_of (state_after config opening past) line) given

-- what the line of this number does after these steps
abbrev pub LineGives : Config → ℕ → List Step → ℕ → List ℕ → Given → Type 0
LineGives config opening past number line given =
    MeaningGives (meaning_of (left_of line)) config opening past number line given

-- a line was done by the fleet
pub record LineDid (Gives : Given → Type 0) (fleet : Collected) (config : Config)
    (opening : ℕ) (before after : List ℕ) (ending : Option Ending) : Type 0 where
  pub given : Given
  pub gives : Gives given
  pub did : Did given fleet config opening before after ending

-- a line ends the replay, or these lines follow
abbrev pub Then : Option Ending → (List ℕ → Ending → Type 0) → List ℕ → Ending → Type 0
Then None More text ending = More text ending
Then (Some last) More text ending = (text ≡ []) × (ending ≡ last)

-- what lines print, the first of which has this number, and how the replay ends: each line's text,
-- one behind the other, up to one that ends the replay or for which an allocation fails
abbrev pub Prints : Config → ℕ → List (List ℕ) → List Step → ℕ → List ℕ → Ending → Type 0
Prints config opening [] past number text ending = (text ≡ []) × (ending ≡ Done)
Prints config opening (line ∷ lines) past number text ending =
    ((text ≡ codes "fault NoMemory\n") × (ending ≡ Failed))
    ⊎ ((given : Given) × (more : List ℕ) × LineGives config opening past number line given
    × (text ≡ given.text ++ more)
    × Then given.ending (Prints config opening lines given.past (number + 1)) more ending)
