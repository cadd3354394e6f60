-- How a talk ends: by what came, never by silence.
use Rattle.std.proofs.Common.{◌≡◌, ℕ, Bool, true, false, if◌then◌else◌, List, [], ◌∷◌, ◌++◌, Option}
use Rattle.std.proofs.Common.{None, Some, Result, Ok, Err, is_some, refl}
use Rattle.std.specs.Option.{option_map}
use Rattle.agg_types.specs.declared.config.Shape.{Shape}
use Rattle.agg_types.specs.declared.event.What.{What}
use Rattle.peers_msg.specs.Message.{Reading, reading_of}
use Rattle.peers_msg.specs.declared.fault.WireCause.{WireCause}
use Rattle.peers_msg.specs.declared.fault.WireCause.TheVariants.{BadField}
use Rattle.peers_msg.specs.declared.message.Message.{Message}
use Rattle.peers_msg.specs.declared.message.Message.TheVariants as messages
use Rattle.session_core.specs.Batched.{Batched}
use Rattle.session_core.specs.Cause.{cause_of}
use Rattle.session_core.specs.Hello.{hello_of}
use Rattle.session_core.specs.InForce.{followed_ids, table_in_force}
use Rattle.session_core.specs.Meaning.{Meaning, Nothing, Confirm, Partial, Fact, End}
use Rattle.session_core.specs.Piece.{Setup, first_end}
use Rattle.session_core.specs.Talk.{Words, end_read, is_too_many, meaning, row_or_end, stage_after}
use Rattle.session_core.specs.Talk.{stage_at, stage_of, talk, talk_after, update_under, words_of}
use Rattle.session_core.specs.Talk.{words_on, words_read}
use Rattle.session_core.specs.TalkAnswers.{FaultAnswersTalk}
use Rattle.session_core.specs.Tracked.{followed_of, put_of}
use Rattle.session_core.specs.declared.cause.End.{End as Ending}
use Rattle.session_core.specs.declared.cause.End.TheVariants as ends
use Rattle.session_core.specs.declared.cause.SessionCause.{SessionCause}
use Rattle.session_core.specs.declared.cause.SessionCause.TheVariants as causes
use Rattle.session_core.specs.declared.cause.Status.{Status}
use Rattle.session_core.specs.declared.stage.Stage.{Stage}
use Rattle.session_core.specs.declared.stage.Stage.TheVariants.{Greeting}
use Rattle.session_core.specs.declared.track.Followed.{Followed}

-- no end, or one by what came
abbrev pub IsOwn : Option Ending → Type 0
IsOwn None = Unit {0}
IsOwn (Some (ends.Refused status)) = Unit {0}
IsOwn (Some (ends.Wire wire)) = Unit {0}
IsOwn (Some ends.PeerError) = Unit {0}
IsOwn (Some ends.TimedOut) = ⊥

abbrev IsOwnMeaning : Meaning → Type 0
IsOwnMeaning Nothing = Unit {0}
IsOwnMeaning Confirm = Unit {0}
IsOwnMeaning Partial = Unit {0}
IsOwnMeaning (Fact fact) = Unit {0}
IsOwnMeaning (End end) = IsOwn (Some end)

row_own : (put : Option What) → IsOwnMeaning (row_or_end put)
row_own None = tt
row_own (Some put) = tt

update_own : (tables : List Shape) (peer : ℕ) (followed : Option Followed) (life : Option ℕ)
    (rest : List ℕ) → IsOwnMeaning (update_under tables peer followed life rest)
update_own tables peer None life rest = tt
update_own tables peer (Some followed) life rest = row_own (put_of tables peer followed life rest)

define_own : (too_many : Bool)
    → IsOwnMeaning (if too_many then End (ends.Wire BadField) else Nothing)
define_own true = tt
define_own false = tt

meaning_own : (tables : List Shape) (peer : ℕ) (past : List Message) (message : Message)
    → IsOwnMeaning (meaning tables peer past message)
unfolding meaning
meaning_own tables peer past messages.Request = tt
meaning_own tables peer past messages.Finished = tt
meaning_own tables peer past messages.Partial = tt
meaning_own tables peer past messages.Confirm = tt
meaning_own tables peer past messages.Heartbeat = tt
meaning_own tables peer past messages.ProtocolError = tt
meaning_own tables peer past messages.SizeError = tt
meaning_own tables peer past (messages.Update id life rest) =
    update_own tables peer (table_in_force tables past) life rest
meaning_own tables peer past (messages.Define definition) =
    define_own (is_too_many (is_some (followed_of tables definition)) definition.id
    (followed_ids tables past))
meaning_own tables peer past (messages.Switch id) = tt
meaning_own tables peer past (messages.Acked id last) = tt
meaning_own tables peer past (messages.Other class kind) = tt

words_on_own : (past : List Message) (next : Words) (means : Meaning) → IsOwnMeaning means
    → IsOwn next.end → IsOwn (words_on past next means).end
words_on_own past next Nothing own later = later
words_on_own past next Confirm own later = later
words_on_own past next Partial own later = later
words_on_own past next (Fact fact) own later = later
words_on_own past next (End end) own later = own

words_own : (tables : List Shape) (peer : ℕ) (past messages : List Message)
    → IsOwn (words_of tables peer past messages).end
unfolding words_of
words_own tables peer past [] = tt
words_own tables peer past (message ∷ messages) =
    words_on_own past (words_of tables peer (message ∷ past) messages)
    (meaning tables peer past message) (meaning_own tables peer past message)
    (words_own tables peer (message ∷ past) messages)

first_own : (first other : Option Ending) → IsOwn first → IsOwn other
    → IsOwn (first_end first other)
first_own None other own later = later
first_own (Some end) other own later = own

wire_own : (fault : Option WireCause) → IsOwn (option_map (λ wire. ends.Wire wire) fault)
wire_own None = tt
wire_own (Some wire) = tt

after_own : (tables : List Shape) (hello : Result (Option (ℕ × List ℕ)) Status)
    → IsOwn (talk_after tables hello).end
after_own tables (Ok None) = tt
after_own tables (Err status) = tt
after_own tables (Ok (Some hello)) =
    let reading : Reading = reading_of hello.1 in
    first_own (words_read tables hello.0 reading).end
    (option_map (λ wire. ends.Wire wire) reading.fault)
    (words_own tables hello.0 [] reading.messages) (wire_own reading.fault)

talk_own : (setup : Setup) (seated : Bool) (bytes : List ℕ)
    → IsOwn (talk setup seated bytes).end
unfolding talk
talk_own setup seated bytes =
    after_own setup.tables (hello_of setup.me setup.peers seated bytes)

not_late : (end : Option Ending) → IsOwn end → option_map cause_of end ≡ Some causes.TimedOut → ⊥
not_late None own is = cc is
not_late (Some (ends.Refused status)) own is = cc is
not_late (Some (ends.Wire wire)) own is = cc is
not_late (Some ends.PeerError) own is = cc is
not_late (Some ends.TimedOut) own is = own

-- no talk ends by silence
pub never_late : (setup : Setup) (seated : Bool) (bytes : List ℕ)
    → option_map cause_of (talk setup seated bytes).end ≡ Some causes.TimedOut → ⊥
never_late setup seated bytes =
    not_late (talk setup seated bytes).end (talk_own setup seated bytes)

-- nor does a piece end a session by silence
pub never_late_by : (cause : SessionCause) (batch : Batched) (setup : Setup) (seated : Bool)
    (taken piece : List ℕ) (stage : Stage)
    → FaultAnswersTalk cause batch setup seated taken piece stage → cause ≡ causes.TimedOut → ⊥
never_late_by (causes.Refused status) batch setup seated taken piece stage told is = cc is
never_late_by (causes.Wire wire) batch setup seated taken piece stage told is = cc is
never_late_by causes.PeerError batch setup seated taken piece stage told is = cc is
never_late_by causes.NoMemory batch setup seated taken piece stage told is = cc is
never_late_by causes.TimedOut batch setup seated taken piece stage told is =
    never_late setup seated (taken ++ piece) told.ends

greets_at : (tables : List Shape) (peer : ℕ) (reading : Reading) (end : Option Ending)
    → stage_at tables peer reading end ≡ Greeting [] → ⊥
greets_at tables peer reading None is = cc is
greets_at tables peer reading (Some end) is = cc is

greets_after : (tables : List Shape) (hello : Result (Option (ℕ × List ℕ)) Status)
    → stage_after tables [] hello ≡ Greeting []
    → option_map cause_of (talk_after tables hello).end ≡ None
greets_after tables (Ok None) is = refl
greets_after tables (Err status) is = absurd (cc is)
greets_after tables (Ok (Some hello)) is =
    absurd (greets_at tables hello.0 (reading_of hello.1)
    (end_read tables hello.0 (reading_of hello.1)) is)

-- where no bytes are no hello, they are no end
pub goes_on_at_start : (setup : Setup) (seated : Bool) → stage_of setup seated [] ≡ Greeting []
    → option_map cause_of (talk setup seated []).end ≡ None
unfolding talk stage_of
goes_on_at_start setup seated is =
    greets_after setup.tables (hello_of setup.me setup.peers seated []) is
