-- Where a session stands, and its silence.
use Rattle.std.specs.Prelude.{◌≡◌, ℕ, ◌-◌, Bool, true, false, nat_le, ◌==◌, ◌&&◌, ◌||◌, is_some}
use Rattle.std.specs.Prelude.{if◌then◌else◌, List, [], ◌++◌, length, Some, None, Result, Ok, Err}
use Rattle.session_core.specs.declared.batch.SessionFault.{SessionFault}
use Rattle.session_core.specs.declared.cause.SessionCause.{SessionCause}
use Rattle.session_core.specs.declared.cause.SessionCause.TheVariants as cause
use Rattle.session_core.specs.declared.session.TheConstants.{BEAT_AFTER, LONGEST_SILENCE}
use Rattle.session_core.specs.declared.session.Idle.{Idle}
use Rattle.session_core.specs.declared.session.Idle.TheVariants.{Nothing, Beat, Ended}
use Rattle.session_core.specs.declared.stage.Stage.{Stage}
use Rattle.session_core.specs.declared.stage.Stage.TheVariants.{Greeting, Over}
use Rattle.session_core.specs.declared.stage.StageOutcome.{StageOutcome}
use Rattle.std.specs.Option.{option_map}
use Rattle.session_core.specs.Batched.{Batched}
use Rattle.session_core.specs.Cause.{cause_of}
use Rattle.session_core.specs.Silence.{end_by_silence, peer_of}
use Rattle.session_core.specs.Piece.{nothing}

-- whether it has a seat, where its stream stands, the moments at which it last last_input and
-- last_output, and whether it was silent too long
pub record SessionState : Type 0 where
  pub seated : Bool
  pub stage : Stage
  pub last_input : ℕ
  pub last_output : ℕ
  pub late : Bool

abbrev pub accepted : Bool → ℕ → SessionState
accepted seated now =
    record {
      seated = seated;
      stage = Greeting [];
      last_input = now;
      last_output = now;
      late = false;
    }

-- after a piece that was taken at this moment
abbrev pub after_piece : SessionState → List ℕ → ℕ → StageOutcome → SessionState
after_piece old piece now taken =
    record {
      seated = old.seated;
      stage = taken.stage;
      last_input = if length piece == 0 then old.last_input else now;
      last_output = if length (taken.batch.replies ++ taken.batch.acks) == 0 then old.last_output
          else now;
      late = old.late;
    }

abbrev pub Ends : SessionCause → Batched → SessionState → SessionState → List ℕ → ℕ → StageOutcome
    → Type 0
Ends cause batch old new piece now taken =
    (option_map cause_of taken.end ≡ Some cause) × (batch ≡ taken.batch)
    × (new ≡ after_piece old piece now taken)

abbrev pub FaultAnswers : SessionCause → Batched → SessionState → SessionState → List ℕ → ℕ
    → StageOutcome → Type 0
FaultAnswers cause.NoMemory batch old new piece now taken = (batch ≡ nothing) × (new ≡ old)
FaultAnswers (cause.Refused status) batch old new piece now taken =
    Ends (cause.Refused status) batch old new piece now taken
FaultAnswers (cause.Wire wire) batch old new piece now taken =
    Ends (cause.Wire wire) batch old new piece now taken
FaultAnswers cause.PeerError batch old new piece now taken =
    Ends cause.PeerError batch old new piece now taken
FaultAnswers cause.TimedOut batch old new piece now taken =
    Ends cause.TimedOut batch old new piece now taken

-- what a piece gives, with a fault exactly where it ends the session; `NoMemory` leaves all as it
-- was
abbrev pub Answers : Result Batched SessionFault → SessionState → SessionState → List ℕ → ℕ
    → StageOutcome → Type 0
Answers (Ok batch) old new piece now taken =
    (taken.end ≡ None) × (batch ≡ taken.batch) × (new ≡ after_piece old piece now taken)
Answers (Err fault) old new piece now taken =
    FaultAnswers fault.cause fault.batch old new piece now taken

abbrev pub timed_out : Stage → Stage
timed_out stage = Over (end_by_silence stage) (peer_of stage)

-- ended for good after the longest silence; a beat when it is due after the last output or beat of
-- an accepted session
abbrev pub idle_of : SessionState → ℕ → Idle
idle_of session now =
    if session.late || nat_le LONGEST_SILENCE (now - session.last_input) then Ended
    else if is_some (peer_of session.stage)
    && nat_le BEAT_AFTER (now - session.last_output) then Beat
    else Nothing

abbrev pub after_idle : SessionState → ℕ → Idle → SessionState
after_idle old now Nothing = old
after_idle old now Beat =
    record {
      seated = old.seated;
      stage = old.stage;
      last_input = old.last_input;
      last_output = now;
      late = old.late;
    }
after_idle old now Ended =
    record {
      seated = old.seated;
      stage = timed_out old.stage;
      last_input = old.last_input;
      last_output = old.last_output;
      late = true;
    }
