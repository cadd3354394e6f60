-- A session at work.
use Rattle.std.specs.Prelude.{◌≡◌, ◌⊎◌, ℕ, Bool, List, [], ◌++◌, length, Option, None, is_some}
use Rattle.std.specs.Prelude.{Result}
use Rattle.std.specs.Prelude.{Ok, Err, IfOk}
use Rattle.agg_types.specs.declared.event.What.{What}
use Rattle.session_core.specs.declared.batch.SessionFault.{SessionFault}
use Rattle.session_core.specs.declared.cause.SessionCause.{SessionCause}
use Rattle.session_core.specs.declared.cause.SessionCause.TheVariants as causes
use Rattle.session_core.specs.Batched.{Batched}
use Rattle.session_core.specs.Piece.{setup_of}
use Rattle.session_core.specs.Talk.{stage_of}
use Rattle.hub.specs.declared.faults.PostFault.TheVariants.{Pending}
use Rattle.hub.specs.History.{Beginning}
use Rattle.worker_frame.specs.declared.poster.Poster.{Poster}
use Rattle.peer_worker.specs.declared.faults.AnswerFault.{AnswerFault}
use Rattle.peer_worker.specs.declared.faults.AnswerFault.TheVariants.{Write, Post, Signal}
use Rattle.peer_worker.specs.declared.faults.TurnFault.{TurnFault}
use Rattle.worker_frame.specs.declared.served.Cause.{Cause}
use Rattle.worker_frame.specs.declared.served.Faulted.{Faulted}
use Rattle.worker_frame.specs.declared.served.Served.{Served}
use Rattle.peer_worker.specs.declared.worker.Worker.{Worker}
use Rattle.std.specs.Io.KnownBytes.{Appends}
use Rattle.peer_worker.specs.Faults.{cause_of_turn}
use Rattle.peer_worker.specs.Tellings.{AreTellings, TellsOn}
use Rattle.worker_frame.specs.Told.{stored_of}
use Rattle.worker_frame.specs.Traffic.{Advances, Traffic, so_far}
use Rattle.peer_worker.specs.Turns.{PosterTells, EndsBy, IsAnswered, SeatIsServed, Turn, TalkEnds}
use Rattle.peer_worker.specs.Turns.{WroteSignal, answers_in, facts_in, seat_at, taken_in}
use Rattle.worker_frame.specs.Writing.{WroteFront}

-- it stands for the bytes taken in these turns, whose talk goes on, and their facts were told
pub record IsAtWork (hub : Beginning) (seated : Bool) (worker : Worker) (turns : List Turn)
    : Type 0 where
  pub has_seat : worker.session.seated ≡ seated
  pub stands : worker.session.stage ≡ stage_of (setup_of hub.config) seated (taken_in turns)
  pub goes_on : TalkEnds (setup_of hub.config) seated (taken_in turns) None
  pub told : PosterTells hub worker.poster (facts_in (setup_of hub.config) seated turns) 0
  pub shown : AreTellings hub seated (seat_at worker.poster) turns
  pub tells : TellsOn hub seated turns worker.pushing

-- the same, with what its source gave and its writer took since it began
pub record Works (hub : Beginning) (seated : Bool) (worker : Worker)
    (start now : Traffic) : Type 0 where
  pub turns : List Turn
  pub work : IsAtWork hub seated worker turns
  pub carried : Advances start now (taken_in turns)
      (answers_in (setup_of hub.config) seated turns)

-- it works on, where it did
abbrev pub StaysAtWork : Beginning → Worker → Worker → Type 0
StaysAtWork hub old new =
    (seated : Bool) (start now : Traffic) → Works hub seated old start now
    → Works hub seated new start now

-- it has ended for this cause
pub record Stops (hub : Beginning) (seated : Bool) (worker : Worker)
    (start now : Traffic) (cause : Cause) : Type 0 where
  pub bytes : List ℕ
  pub written : List ℕ
  pub carried : Advances start now bytes written
  pub ends : EndsBy (setup_of hub.config) seated
      (AreTellings hub seated (seat_at worker.poster)) (PosterTells hub worker.poster) bytes written
      cause

-- it works on, or has ended
abbrev pub WorksOn : {A : Type 0} → Beginning → Bool → Worker → Traffic → Traffic
    → Result A Cause → Type 0
WorksOn hub seated worker start now (Ok done) =
    Works hub seated worker start now
WorksOn hub seated worker start now (Err cause) =
    Stops hub seated worker start now cause

-- the same after a step, which can't fail for every cause
abbrev pub GoesOn : {A : Type 0} → Beginning → Bool → Worker → Traffic → Traffic
    → Result A TurnFault → Type 0
GoesOn hub seated worker start now (Ok done) =
    Works hub seated worker start now
GoesOn hub seated worker start now (Err fault) =
    Stops hub seated worker start now (cause_of_turn fault)

-- a step that takes a piece which was read, whatever was read and written before
abbrev pub Takes : {A : Type 0} → Beginning → Worker → Worker → List ℕ → Option (List ℕ)
    → Option (List ℕ) → Result A TurnFault → Type 0
Takes hub old new piece before after result =
    (seated : Bool) (start : Traffic) (given more : Option (List ℕ)) → Appends given more piece
    → Works hub seated old start (so_far given before)
    → GoesOn hub seated new start (so_far more after) result

-- The facts of a batch are told, and then its bytes written; where they are refused, nothing is.
-- Where a signal couldn't be written meanwhile, its bytes aren't either.
abbrev pub SettlesTo : {A : Type 0} → Beginning → Option Poster → List What → Batched
    → Option (List ℕ) → Option (List ℕ) → Result A AnswerFault → Type 0
SettlesTo hub poster whats batch before after (Ok done) =
    PosterTells hub poster (whats ++ batch.facts) 0
    × Appends before after (batch.replies ++ batch.acks)
SettlesTo hub poster whats batch before after (Err Write) =
    PosterTells hub poster (whats ++ batch.facts) 0
    × WroteFront before after (batch.replies ++ batch.acks)
SettlesTo hub poster whats batch before after (Err (Post fault)) =
    PosterTells hub poster whats (stored_of fault (length batch.facts))
    × (Appends before after [] ⊎ ((fault ≡ Pending) × WroteSignal before after))
SettlesTo hub poster whats batch before after (Err Signal) =
    PosterTells hub poster (whats ++ batch.facts) 0 × WroteSignal before after

-- out of memory, nothing is posted nor written
pub record EndsForMemory (old new : Option Poster) (before after : Option (List ℕ))
    (result : Result SessionCause AnswerFault) : Type 0 where
  pub is : result ≡ Ok causes.NoMemory
  pub poster : new ≡ old
  pub kept : after ≡ before

-- a batch that came with a fault is settled, and then its cause ends the session
pub record SettlesThen (hub : Beginning) (poster : Option Poster) (whats : List What)
    (fault : SessionFault) (before after : Option (List ℕ))
    (result : Result SessionCause AnswerFault) : Type 0 where
  pub is : IfOk result (λ cause. cause ≡ fault.cause)
  pub settles : SettlesTo hub poster whats fault.batch before after result

abbrev pub EndsFor : SessionCause → Beginning → Option Poster → Option Poster → List What
    → SessionFault → Option (List ℕ) → Option (List ℕ) → Result SessionCause AnswerFault → Type 0
EndsFor (causes.Refused status) hub old new whats fault before after result =
    SettlesThen hub new whats fault before after result
EndsFor (causes.Wire wire) hub old new whats fault before after result =
    SettlesThen hub new whats fault before after result
EndsFor causes.PeerError hub old new whats fault before after result =
    SettlesThen hub new whats fault before after result
EndsFor causes.TimedOut hub old new whats fault before after result =
    SettlesThen hub new whats fault before after result
EndsFor causes.NoMemory hub old new whats fault before after result =
    EndsForMemory old new before after result

-- how a session ends with a fault
abbrev pub EndsTo : Beginning → Option Poster → Option Poster → List What → SessionFault
    → Option (List ℕ) → Option (List ℕ) → Result SessionCause AnswerFault → Type 0
EndsTo hub old new whats fault before after result =
    EndsFor fault.cause hub old new whats fault before after result

-- how a session was served at Ok: all that its source gave was told and answered, and its talk
-- goes on
pub record IsServedWhole (hub : Beginning) (seat : Option ℕ)
    (start now : Traffic) (served : Served) : Type 0 where
  pub bytes : List ℕ
  pub written : List ℕ
  pub carried : Advances start now bytes written
  pub ends : IsAnswered (setup_of hub.config) (is_some seat)
      (AreTellings hub (is_some seat) seat) (SeatIsServed hub seat served) None bytes written

-- how a session was served that ended for a cause
pub record IsServedUntil (hub : Beginning) (seat : Option ℕ)
    (start now : Traffic) (faulted : Faulted) : Type 0 where
  pub bytes : List ℕ
  pub written : List ℕ
  pub carried : Advances start now bytes written
  pub ends : EndsBy (setup_of hub.config) (is_some seat) (AreTellings hub (is_some seat) seat)
      (SeatIsServed hub seat faulted.served) bytes written faulted.cause
