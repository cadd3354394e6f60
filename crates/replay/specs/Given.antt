-- What a line behind `start` does to a fleet that stands for the steps before it, newest first.
use Rattle.std.specs.Prelude.{◌≡◌, ℕ, not, if◌then◌else◌, List, [], ◌∷◌, ◌++◌, codes, Option, None}
use Rattle.std.specs.Prelude.{Some, Result, Ok, Err}
use Rattle.agg_types.specs.declared.config.Config.{Config}
use Rattle.session_core.specs.declared.cause.SessionCause.{SessionCause}
use Rattle.fleet_core.specs.Possible.{can_be, end_by, is_spent, sent_by}
use Rattle.fleet_core.specs.Represents.{Collected, Represents}
use Rattle.fleet_core.specs.Steps.{conn_of}
use Rattle.fleet_core.specs.declared.step.FleetFault.{FleetFault}
use Rattle.fleet_core.specs.declared.step.FleetFault.TheVariants as fault
use Rattle.fleet_core.specs.declared.step.Replies.{Replies}
use Rattle.fleet_core.specs.declared.step.Step.{Step}
use Rattle.fleet_core.specs.declared.step.Step.TheVariants.{Connect, Bytes, Lost, Clear, AddFilter}
use Rattle.fleet_core.specs.declared.step.Step.TheVariants.{DropFilter, Moment, Told}
use Rattle.replay.specs.Tellings.{shown_text}
use Rattle.replay.specs.Texts.{conn_text, end_text, sent_text}
use Rattle.replay.specs.declared.ending.Ending.{Ending}
use Rattle.replay.specs.declared.ending.Ending.TheVariants.{Failed}

-- the steps that were done after a line, what it prints, and how the replay ends by it, if it does
pub record Given : Type 0 where
  pub past : List Step
  pub text : List ℕ
  pub ending : Option Ending

-- the line of a connection that came, if a step is that
abbrev pub came_text : Step → ℕ → List ℕ
came_text Connect conn = conn_text conn
came_text (Bytes of piece) conn = []
came_text (Lost of) conn = []
came_text (Clear table sel) conn = []
came_text (AddFilter filter) conn = []
came_text (DropFilter name) conn = []
came_text (Moment moment) conn = []
came_text (Told of) conn = []

-- the line of a session that ended, if it did
abbrev pub ended_text : ℕ → Option SessionCause → List ℕ
ended_text conn None = []
ended_text conn (Some cause) = end_text conn cause

-- what a step prints that was done
abbrev pub done_text : Step → Replies → Option SessionCause → List ℕ
done_text step replies end =
    came_text step replies.conn ++ sent_text replies.conn replies.out ++ ended_text replies.conn end

-- a step is done, unless its connection isn't open or no numbers are left for it
abbrev pub step_given : Config → ℕ → List Step → Step → Given
step_given config opening past step =
    if not (can_be config opening past step)
    then record { past = past; text = codes "fault NoConn\n"; ending = None }
    else if is_spent config opening past step
    then record { past = past; text = codes "fault Spent\n"; ending = Some Failed }
    else record {
      past = step ∷ past;
      text =
          done_text step (sent_by config opening past step) (end_by config opening past step)
          ++ shown_text config opening (step ∷ past) step;
      ending = None;
    }

-- the fleet stands for these steps, and its book has taken all their events
pub record IsSettled (fleet : Collected) (config : Config) (opening : ℕ)
    (past : List Step) : Type 0 where
  pub stands : Represents fleet config opening past
  pub waiting : fleet.waiting ≡ []

-- a line did what is given: it left the fleet so, appended the text, and gave the ending
pub record Did (given : Given) (fleet : Collected) (config : Config) (opening : ℕ)
    (before after : List ℕ) (ending : Option Ending) : Type 0 where
  pub settled : IsSettled fleet config opening given.past
  pub text : after ≡ before ++ given.text
  pub ended : ending ≡ given.ending

-- what is printed of what a fleet answers, other than NoMemory
abbrev pub answer_text : Step → Result Replies FleetFault → List ℕ
answer_text step (Ok replies) = done_text step replies None
answer_text step (Err fault.NoConn) = codes "fault NoConn\n"
answer_text step (Err fault.Spent) = codes "fault Spent\n"
answer_text step (Err fault.NoMemory) = []
answer_text step (Err (fault.Session cause out)) =
    sent_text (conn_of step) out ++ end_text (conn_of step) cause

-- how a replay ends by what a fleet answers, other than NoMemory
abbrev pub answer_ending : Result Replies FleetFault → Option Ending
answer_ending (Ok replies) = None
answer_ending (Err fault.NoConn) = None
answer_ending (Err fault.Spent) = Some Failed
answer_ending (Err fault.NoMemory) = None
answer_ending (Err (fault.Session cause out)) = None
