-- What a session reads, tells and writes, turn by turn.
use Rattle.std.specs.Option.{option_map}
use Rattle.std.specs.Prelude.{◌≡◌, ◌⊎◌, ℕ, ◌-◌, Bool, List, [], ◌∷◌, ◌++◌, length, drop, map, take}
use Rattle.std.specs.Prelude.{if◌then◌else◌, Option, None, Some, MatchOption}
use Rattle.agg_types.specs.declared.event.What.{What}
use Rattle.fleet_model.specs.Named.{keys_named}
use Rattle.fleet_model.specs.State.{State}
use Rattle.peers_msg.specs.Kinds as kinds
use Rattle.peers_msg.specs.declared.message.Message.{Message}
use Rattle.session_core.specs.declared.cause.SessionCause.{SessionCause}
use Rattle.session_core.specs.declared.cause.SessionCause.TheVariants as causes
use Rattle.session_core.specs.Cause.{cause_of}
use Rattle.session_core.specs.Piece.{Setup}
use Rattle.session_core.specs.Talk.{Talk, acks_among, talk}
use Rattle.session_core.specs.Asking.{asks_all}
use Rattle.pushed_keys.specs.Pushes.{pushed_of}
use Rattle.pushed_keys.specs.declared.pushed.Pushed.{Pushed}
use Rattle.telling.specs.Telling.{text_of, told_after, turn_messages, turn_text}
use Rattle.telling.specs.Told.{Told as Memory, asked, untold}
use Rattle.hub.specs.declared.faults.PostFault.TheVariants.{Pending}
use Rattle.hub.specs.History.{Beginning}
use Rattle.worker_frame.specs.declared.poster.Poster.{Poster}
use Rattle.worker_frame.specs.declared.served.Cause.{Cause}
use Rattle.worker_frame.specs.declared.served.Cause.TheVariants.{Read, Write, Session, Post, Look}
use Rattle.worker_frame.specs.declared.served.Served.{Served}
use Rattle.worker_frame.specs.Told.{HasTold, IsServed, stored_of}
use Rattle.worker_frame.specs.Writing.{WroteFront}
use Rattle.peer_worker.specs.declared.waiting.Signal.{Signal}
use Rattle.peer_worker.specs.declared.waiting.Signal.TheVariants.{Heartbeat, Request}

-- a telling: the list that it shows, and the book of that list
pub record Telling : Type 0 where
  pub seen : Beginning
  pub book : State

-- a piece was taken, a signal was sent, a telling of the pushed tables was made, or so many
-- messages more of what it says were written
pub data Turn : Type 0 where
  Piece : List ℕ → Turn
  Send : Signal → Turn
  Tell : Telling → Turn
  Say : ℕ → Turn

-- what a signal is: a heartbeat, or a resync request
abbrev pub text_of_signal : Signal → List ℕ
text_of_signal Heartbeat = kinds.control_class ∷ kinds.heartbeat ∷ []
text_of_signal Request = kinds.control_class ∷ kinds.resync_request ∷ []

-- the bytes taken in these turns, of which the newest is first
abbrev pub taken_in : List Turn → List ℕ
taken_in [] = []
taken_in (Send signal ∷ earlier) = taken_in earlier
taken_in (Tell telling ∷ earlier) = taken_in earlier
taken_in (Say count ∷ earlier) = taken_in earlier
taken_in (Piece piece ∷ earlier) = taken_in earlier ++ piece

-- what a talk says beyond an earlier one: its further replies, then the acknowledgements of all
-- that came since
abbrev pub said_beyond : Setup → Talk → Talk → List ℕ
said_beyond setup old new =
    drop (length old.replies) new.replies
    ++ acks_among setup.tables (new.count - old.count) new.past

-- the keys that a pushed table stands for in a book: those of the filter of its name
abbrev pub set_named : State → Pushed → List (List ℕ)
set_named book table = keys_named book table.name

-- the sets of the pushed tables in a book
abbrev pub sets_in : List Pushed → State → List (List (List ℕ))
sets_in pushed book = map (set_named book) pushed

-- the pushed tables of a telling
abbrev pub pushed_in : Telling → List Pushed
pushed_in telling = pushed_of telling.seen.config

-- what was told, or, where a resync request was read, is asked for anew
abbrev pub asked_if : Bool → Memory → Memory
asked_if asks told = if asks then asked told else told

-- what these turns told of the pushed tables: a piece with a resync request asks for all of it
-- anew
abbrev pub told_in : Setup → Bool → List Pushed → List Turn → Memory
told_in setup seated pushed [] = untold
told_in setup seated pushed (Send signal ∷ earlier) = told_in setup seated pushed earlier
told_in setup seated pushed (Say count ∷ earlier) = told_in setup seated pushed earlier
told_in setup seated pushed (Tell telling ∷ earlier) =
    told_after pushed (sets_in pushed telling.book) telling.book.moment
    (told_in setup seated pushed earlier)
told_in setup seated pushed (Piece piece ∷ earlier) =
    asked_if (asks_all (drop (length (talk setup seated (taken_in earlier)).replies)
    (talk setup seated (taken_in earlier ++ piece)).replies))
    (told_in setup seated pushed earlier)

-- what the newest telling among these turns has still to say: all that brings what was told to the
-- sets of its list, but for the messages that were written since
abbrev pub unsaid_in : Setup → Bool → List Turn → List Message
unsaid_in setup seated [] = []
unsaid_in setup seated (Piece piece ∷ earlier) = unsaid_in setup seated earlier
unsaid_in setup seated (Send signal ∷ earlier) = unsaid_in setup seated earlier
unsaid_in setup seated (Tell telling ∷ earlier) =
    turn_messages (pushed_in telling) (sets_in (pushed_in telling) telling.book)
    telling.book.moment (told_in setup seated (pushed_in telling) earlier)
unsaid_in setup seated (Say count ∷ earlier) = drop count (unsaid_in setup seated earlier)

-- what answers a turn behind those before it: of what a telling says, whole messages are written
-- at a time
abbrev pub answer_at : Setup → Bool → List Turn → Turn → List ℕ
answer_at setup seated earlier (Send signal) = text_of_signal signal
answer_at setup seated earlier (Tell telling) = []
answer_at setup seated earlier (Say count) = text_of (take count (unsaid_in setup seated earlier))
answer_at setup seated earlier (Piece piece) =
    said_beyond setup (talk setup seated (taken_in earlier))
    (talk setup seated (taken_in earlier ++ piece))

-- all that answers these turns
abbrev pub answers_in : Setup → Bool → List Turn → List ℕ
answers_in setup seated [] = []
answers_in setup seated (turn ∷ earlier) =
    answers_in setup seated earlier ++ answer_at setup seated earlier turn

-- what was written so far of what the newest telling among these turns says
abbrev pub said_in : Setup → Bool → List Turn → List ℕ
said_in setup seated [] = []
said_in setup seated (Piece piece ∷ earlier) = said_in setup seated earlier
said_in setup seated (Send signal ∷ earlier) = said_in setup seated earlier
said_in setup seated (Tell telling ∷ earlier) = []
said_in setup seated (Say count ∷ earlier) =
    said_in setup seated earlier ++ answer_at setup seated earlier (Say count)

-- all that it says: the text of its turn
abbrev pub text_in : Setup → Bool → List Turn → List ℕ
text_in setup seated [] = []
text_in setup seated (Piece piece ∷ earlier) = text_in setup seated earlier
text_in setup seated (Send signal ∷ earlier) = text_in setup seated earlier
text_in setup seated (Tell telling ∷ earlier) =
    turn_text (pushed_in telling) (sets_in (pushed_in telling) telling.book) telling.book.moment
    (told_in setup seated (pushed_in telling) earlier)
text_in setup seated (Say count ∷ earlier) = text_in setup seated earlier

-- the facts of the bytes taken in these turns
abbrev pub facts_in : Setup → Bool → List Turn → List What
facts_in setup seated turns = (talk setup seated (taken_in turns)).facts

-- the talk of these bytes has ended for this cause; at none it goes on
abbrev pub TalkEnds : Setup → Bool → List ℕ → Option SessionCause → Type 0
TalkEnds setup seated bytes end = option_map cause_of (talk setup seated bytes).end ≡ end

-- each turn was answered, and all facts were told, up to this end of the talk if it came
pub record IsAnswered (setup : Setup) (seated : Bool) (Shown : List Turn → Type 0)
    (Told : List What → ℕ → Type 0) (end : Option SessionCause) (bytes written : List ℕ)
    : Type 0 where
  pub turns : List Turn
  pub shown : Shown turns
  pub read : bytes ≡ taken_in turns
  pub ends : TalkEnds setup seated bytes end
  pub told : Told (facts_in setup seated turns) 0
  pub answered : written ≡ answers_in setup seated turns

-- the same, but of the answer to the last turn only a beginning was written
pub record IsCutShort (setup : Setup) (seated : Bool) (Shown : List Turn → Type 0)
    (Told : List What → ℕ → Type 0) (bytes written : List ℕ) : Type 0 where
  pub turns : List Turn
  pub last : Turn
  pub shown : Shown (last ∷ turns)
  pub front : List ℕ
  pub rest : List ℕ
  pub goes_on : TalkEnds setup seated (taken_in turns) None
  pub read : bytes ≡ taken_in (last ∷ turns)
  pub told : Told (facts_in setup seated (last ∷ turns)) 0
  pub answer : answer_at setup seated turns last ≡ front ++ rest
  pub answered : written ≡ answers_in setup seated turns ++ front

-- the same, but only a beginning of a signal was written while a last piece waited: its facts were
-- told then, and nothing of it was answered
pub record IsCutWaiting (setup : Setup) (seated : Bool) (Shown : List Turn → Type 0)
    (Told : List What → ℕ → Type 0) (bytes written : List ℕ) : Type 0 where
  pub turns : List Turn
  pub shown : Shown turns
  pub piece : List ℕ
  pub front : List ℕ
  pub rest : List ℕ
  pub goes_on : TalkEnds setup seated (taken_in turns) None
  pub read : bytes ≡ taken_in turns ++ piece
  pub told : Told (facts_in setup seated (Piece piece ∷ turns)) 0
  pub signal : Signal
  pub cut : text_of_signal signal ≡ front ++ rest
  pub answered : written ≡ answers_in setup seated turns ++ front

-- the same, but the facts of the last piece are stored and weren't shown
pub record IsCutPending (setup : Setup) (seated : Bool) (Shown : List Turn → Type 0)
    (Told : List What → ℕ → Type 0) (bytes written : List ℕ) : Type 0 where
  pub turns : List Turn
  pub shown : Shown turns
  pub piece : List ℕ
  pub front : List ℕ
  pub rest : List ℕ
  pub goes_on : TalkEnds setup seated (taken_in turns) None
  pub read : bytes ≡ taken_in turns ++ piece
  pub told : Told (facts_in setup seated turns)
      (length (talk setup seated bytes).facts - length (facts_in setup seated turns))
  pub signal : Signal
  pub cut : text_of_signal signal ≡ front ++ rest
  pub answered : written ≡ answers_in setup seated turns ++ front

-- the same, but of a last piece nothing was told nor answered; so many of its facts are stored all
-- the same
pub record IsRefused (setup : Setup) (seated : Bool) (Shown : List Turn → Type 0)
    (Told : List What → ℕ → Type 0) (bytes written : List ℕ) (stored : ℕ → ℕ) : Type 0 where
  pub turns : List Turn
  pub shown : Shown turns
  pub piece : List ℕ
  pub goes_on : TalkEnds setup seated (taken_in turns) None
  pub read : bytes ≡ taken_in turns ++ piece
  pub told : Told (facts_in setup seated turns)
      (stored (length (talk setup seated bytes).facts - length (facts_in setup seated turns)))
  pub answered : written ≡ answers_in setup seated turns

-- how a session ends by its stream, by silence or out of memory: no end of a stream is invented,
-- and none is passed over
abbrev pub EndsBySession : Setup → Bool → (List Turn → Type 0) → (List What → ℕ → Type 0)
    → List ℕ → List ℕ → SessionCause → Type 0
EndsBySession setup seated Shown Told bytes written (causes.Refused status) =
    IsAnswered setup seated Shown Told (Some (causes.Refused status)) bytes written
EndsBySession setup seated Shown Told bytes written (causes.Wire wire) =
    IsAnswered setup seated Shown Told (Some (causes.Wire wire)) bytes written
EndsBySession setup seated Shown Told bytes written causes.PeerError =
    IsAnswered setup seated Shown Told (Some causes.PeerError) bytes written
EndsBySession setup seated Shown Told bytes written causes.TimedOut =
    IsAnswered setup seated Shown Told None bytes written
EndsBySession setup seated Shown Told bytes written causes.NoMemory =
    IsRefused setup seated Shown Told bytes written (λ count. 0)

-- how a session ends that read and wrote these bytes
abbrev pub EndsBy : Setup → Bool → (List Turn → Type 0) → (List What → ℕ → Type 0)
    → List ℕ → List ℕ → Cause → Type 0
EndsBy setup seated Shown Told bytes written Read =
    IsAnswered setup seated Shown Told None bytes written
EndsBy setup seated Shown Told bytes written Write =
    IsCutShort setup seated Shown Told bytes written
    ⊎ IsCutWaiting setup seated Shown Told bytes written
EndsBy setup seated Shown Told bytes written (Session cause) =
    EndsBySession setup seated Shown Told bytes written cause
EndsBy setup seated Shown Told bytes written (Post fault) =
    IsRefused setup seated Shown Told bytes written (stored_of fault)
    ⊎ ((fault ≡ Pending) × IsCutPending setup seated Shown Told bytes written)
EndsBy setup seated Shown Told bytes written Look = ⊥

-- the seat of a session that has one
abbrev pub seat_at : Option Poster → Option ℕ
seat_at poster = option_map (λ poster. poster.pass.seat) poster

-- what the poster of a session has told; without a seat nothing is told
abbrev pub PosterTells : Beginning → Option Poster → List What → ℕ → Type 0
PosterTells hub poster whats waiting =
    MatchOption poster (Unit {0}) (λ poster. HasTold hub poster whats waiting)

-- a poster, if there is one, is of this hub
abbrev pub IsPosterOf : Beginning → Option Poster → Type 0
IsPosterOf hub poster = MatchOption poster (Unit {0}) (λ poster. poster.pass.seen.of ≡ hub.of)

-- what the receipts of a session show; without a seat there are none
abbrev pub SeatIsServed : Beginning → Option ℕ → Served → List What → ℕ → Type 0
SeatIsServed hub seat served whats waiting =
    MatchOption seat ((served.last ≡ None) × (served.left ≡ None))
    (λ seat. IsServed hub seat whats waiting served)

-- some beginning of a signal was written
pub record WroteSignal (before after : Option (List ℕ)) : Type 0 where
  pub signal : Signal
  pub front : WroteFront before after (text_of_signal signal)
