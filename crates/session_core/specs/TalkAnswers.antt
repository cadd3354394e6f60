-- What a call answers, against the talk of all the bytes.
use Rattle.std.specs.Prelude.{◌≡◌, ℕ, Bool, true, false, List, ◌++◌, slice_get, Option, Some, None}
use Rattle.std.specs.Prelude.{Result, Ok, Err, IsTrue}
use Rattle.std.specs.List.{list_all}
use Rattle.std.specs.Option.{option_map}
use Rattle.agg_types.specs.Fits.{fits}
use Rattle.agg_types.specs.declared.config.Config.{Config}
use Rattle.agg_types.specs.declared.event.What.{What}
use Rattle.agg_types.specs.declared.event.What.TheVariants.{Sit, Open, Put, Clear, AddFilter}
use Rattle.agg_types.specs.declared.event.What.TheVariants.{DropFilter, Moment, Leave}
use Rattle.session_core.specs.declared.batch.SessionFault.{SessionFault}
use Rattle.session_core.specs.declared.cause.SessionCause.{SessionCause}
use Rattle.session_core.specs.declared.cause.SessionCause.TheVariants as cause
use Rattle.session_core.specs.declared.stage.Stage.{Stage}
use Rattle.session_core.specs.Batched.{Batched}
use Rattle.session_core.specs.Cause.{cause_of}
use Rattle.session_core.specs.Piece.{Setup}
use Rattle.session_core.specs.Talk.{Grows, stage_of, talk}

-- the batch is what the talk has grown by, this is its end, and the session stands for all the
-- bytes
pub record ContinuesTalk (setup : Setup) (seated : Bool) (taken piece : List ℕ) (batch : Batched)
    (end : Option SessionCause) (stage : Stage) : Type 0 where
  pub grows : Grows setup (talk setup seated taken) (talk setup seated (taken ++ piece)) batch
  pub ends : option_map cause_of (talk setup seated (taken ++ piece)).end ≡ end
  pub stands : stage ≡ stage_of setup seated (taken ++ piece)

abbrev pub FaultAnswersTalk : SessionCause → Batched → Setup → Bool → List ℕ → List ℕ → Stage
    → Type 0
FaultAnswersTalk cause.NoMemory batch setup seated taken piece stage =
    stage ≡ stage_of setup seated taken
FaultAnswersTalk (cause.Refused status) batch setup seated taken piece stage =
    ContinuesTalk setup seated taken piece batch (Some (cause.Refused status)) stage
FaultAnswersTalk (cause.Wire wire) batch setup seated taken piece stage =
    ContinuesTalk setup seated taken piece batch (Some (cause.Wire wire)) stage
FaultAnswersTalk cause.PeerError batch setup seated taken piece stage =
    ContinuesTalk setup seated taken piece batch (Some cause.PeerError) stage
FaultAnswersTalk cause.TimedOut batch setup seated taken piece stage =
    ContinuesTalk setup seated taken piece batch (Some cause.TimedOut) stage

-- What a piece gives is what the talk has with it beyond the talk without it, and a fault is
-- answered exactly where the talk has ended, with its cause. After `NoMemory` the session stands
-- for the bytes before the piece.
abbrev pub AnswersTalk : Result Batched SessionFault → Setup → Bool → List ℕ → List ℕ → Stage
    → Type 0
AnswersTalk (Ok batch) setup seated taken piece stage =
    ContinuesTalk setup seated taken piece batch None stage
AnswersTalk (Err fault) setup seated taken piece stage =
    FaultAnswersTalk fault.cause fault.batch setup seated taken piece stage

-- an accepted hello's peer is that of the first fact
abbrev pub OpensWith : Option ℕ → List What → Type 0
OpensWith peer facts = slice_get facts 0 ≡ option_map (λ p. Open p) peer

-- each fact of an answer fits the configuration
abbrev pub FactsFit : Config → Result Batched SessionFault → Type 0
FactsFit config (Ok batch) = IsTrue (list_all (fits config) batch.facts)
FactsFit config (Err fault) = IsTrue (list_all (fits config) fault.batch.facts)

-- whether a fact is a peer's: it speaks for it, or has a row of it
abbrev pub is_open_or_put : What → Bool
is_open_or_put Sit = false
is_open_or_put (Open peer) = true
is_open_or_put (Put peer table key life cells) = true
is_open_or_put (Clear table selected) = false
is_open_or_put (AddFilter filter) = false
is_open_or_put (DropFilter name) = false
is_open_or_put (Moment moment) = false
is_open_or_put Leave = false
