-- What the replies to messages say of resync requests.
use Rattle.std.proofs.Common.{◌≡◌, ℕ, Bool, true, false, ◌||◌, List, [], ◌∷◌, ◌++◌, take, Option}
use Rattle.std.proofs.Common.{Some, None, refl, ap, ◌∙◌}
use Rattle.std.specs.List.{list_any}
use Rattle.std.specs.Prelude.{if◌then◌else◌, is_some}
use Rattle.peers_msg.specs.declared.fault.WireCause.TheVariants.{TooLong, BadInteger, BadField}
use Rattle.peers_msg.specs.declared.fault.WireCause.TheVariants.{NoMemory}
use Rattle.peers_msg.specs.Spelling.{message_spelling}
use Rattle.peers_msg.specs.declared.message.Message.{Message}
use Rattle.peers_msg.specs.declared.message.Message.TheVariants as messages
use Rattle.agg_types.specs.declared.config.Shape.{Shape}
use Rattle.agg_types.specs.declared.event.What.{What}
use Rattle.session_core.specs.declared.cause.End.{End as Ending}
use Rattle.session_core.specs.declared.cause.End.TheVariants as ends
use Rattle.session_core.specs.declared.track.Followed.{Followed}
use Rattle.session_core.specs.Asking.{asks_all, is_partial, is_request}
use Rattle.session_core.specs.Meaning.{Meaning, Nothing, Confirm, Partial, Fact, End}
use Rattle.session_core.specs.Piece.{end_text, welcome}
use Rattle.session_core.specs.InForce.{followed_ids, table_in_force}
use Rattle.session_core.specs.Tracked.{followed_of, put_of}
use Rattle.session_core.specs.Talk.{Words, is_too_many, meaning, row_or_end, update_under, words_of}
use Rattle.session_core.specs.Talk.{words_on}

-- a meaning that isn't a request's
abbrev IsOther : Meaning → Type 0
IsOther Nothing = Unit {0}
IsOther Confirm = Unit {0}
IsOther Partial = ⊥
IsOther (Fact fact) = Unit {0}
IsOther (End cause) = Unit {0}

-- the replies ask for all exactly where so many of the messages have a request
abbrev AsksIf : Words → List Message → Type 0
AsksIf words messages = asks_all words.replies ≡ list_any is_request (take words.count messages)

others : (past : List Message) (next : Words) (mean : Meaning) (message : Message)
    (rest : List Message) → IsOther mean → is_request message ≡ false → AsksIf next rest
    → AsksIf (words_on past next mean) (message ∷ rest)
unfolding asks_all message_spelling
others past next Nothing message rest other isnt h = rw isnt h
others past next Confirm message rest other isnt h = rw isnt h
others past next Partial message rest other isnt h = absurd other
others past next (Fact fact) message rest other isnt h = rw isnt h
others past next (End end) message rest other isnt h = refl

row_is_other : (put : Option What) → IsOther (row_or_end put)
row_is_other None = tt
row_is_other (Some put) = tt

update_is_other : (tables : List Shape) (peer : ℕ) (followed : Option Followed) (life : Option ℕ)
    (rest : List ℕ) → IsOther (update_under tables peer followed life rest)
update_is_other tables peer None life rest = tt
update_is_other tables peer (Some followed) life rest =
    row_is_other (put_of tables peer followed life rest)

if_is_other : (b : Bool) → IsOther (if b then End (ends.Wire BadField) else Nothing)
if_is_other true = tt
if_is_other false = tt

pub asks_words : (tables : List Shape) (peer : ℕ) (past messages : List Message)
    → AsksIf (words_of tables peer past messages) messages
unfolding asks_all words_of meaning message_spelling
asks_words tables peer past [] = refl
asks_words tables peer past (messages.Request ∷ rest) = refl
asks_words tables peer past (messages.Finished ∷ rest) =
    asks_words tables peer (messages.Finished ∷ past) rest
asks_words tables peer past (messages.Partial ∷ rest) =
    asks_words tables peer (messages.Partial ∷ past) rest
asks_words tables peer past (messages.Confirm ∷ rest) =
    asks_words tables peer (messages.Confirm ∷ past) rest
asks_words tables peer past (messages.Heartbeat ∷ rest) =
    asks_words tables peer (messages.Heartbeat ∷ past) rest
asks_words tables peer past (messages.ProtocolError ∷ rest) = refl
asks_words tables peer past (messages.SizeError ∷ rest) = refl
asks_words tables peer past (messages.Update id life row ∷ rest) =
    let message : Message = messages.Update id life row in
    others past (words_of tables peer (message ∷ past) rest)
    (update_under tables peer (table_in_force tables past) life row) message rest
    (update_is_other tables peer (table_in_force tables past) life row) refl
    (asks_words tables peer (message ∷ past) rest)
asks_words tables peer past (messages.Define definition ∷ rest) =
    let message : Message = messages.Define definition in
    others past (words_of tables peer (message ∷ past) rest)
    (meaning tables peer past message) message rest
    (if_is_other (is_too_many (is_some (followed_of tables definition)) definition.id
    (followed_ids tables past))) refl (asks_words tables peer (message ∷ past) rest)
asks_words tables peer past (messages.Switch id ∷ rest) =
    asks_words tables peer (messages.Switch id ∷ past) rest
asks_words tables peer past (messages.Acked id last ∷ rest) =
    asks_words tables peer (messages.Acked id last ∷ past) rest
asks_words tables peer past (messages.Other class kind ∷ rest) =
    asks_words tables peer (messages.Other class kind ∷ past) rest

-- another text may follow this one
abbrev Splits : List ℕ → Type 0
Splits text = (more : List ℕ) → asks_all (text ++ more) ≡ (asks_all text || asks_all more)

or_assoc : (a b c : Bool) → (a || (b || c)) ≡ ((a || b) || c)
or_assoc true b c = refl
or_assoc false b c = refl

none_splits : Splits []
unfolding asks_all
none_splits more = refl

two_split : (class kind : ℕ) (text : List ℕ) → Splits text → Splits (class ∷ kind ∷ text)
unfolding asks_all
two_split class kind text h more =
    ap (λ b. is_partial class kind || b) (h more)
    ∙ or_assoc (is_partial class kind) (asks_all text) (asks_all more)

words_split : (past : List Message) (next : Words) (mean : Meaning) → Splits next.replies
    → Splits (words_on past next mean).replies
unfolding message_spelling
words_split past next Nothing h = h
words_split past next Confirm h = two_split 0 3 next.replies h
words_split past next Partial h = two_split 0 2 next.replies h
words_split past next (Fact fact) h = h
words_split past next (End end) h = none_splits

pub replies_split : (tables : List Shape) (peer : ℕ) (past messages : List Message)
    → Splits (words_of tables peer past messages).replies
unfolding words_of
replies_split tables peer past [] = none_splits
replies_split tables peer past (message ∷ rest) =
    words_split past (words_of tables peer (message ∷ past) rest)
    (meaning tables peer past message) (replies_split tables peer (message ∷ past) rest)

pub welcome_asks : (more : List ℕ) → asks_all (welcome ++ more) ≡ asks_all more
unfolding asks_all message_spelling
welcome_asks more = refl

pub end_asks : (end : Ending) → asks_all (end_text end) ≡ false
unfolding asks_all message_spelling
end_asks (ends.Wire TooLong) = refl
end_asks (ends.Wire BadInteger) = refl
end_asks (ends.Wire BadField) = refl
end_asks (ends.Wire NoMemory) = refl
end_asks (ends.Refused status) = refl
end_asks ends.PeerError = refl
end_asks ends.TimedOut = refl
