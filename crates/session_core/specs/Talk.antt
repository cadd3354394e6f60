-- What a session says and tells, of the whole byte string so far.
use Rattle.std.specs.Prelude.{◌≡◌, ℕ, suc, ◌-◌, Bool, nat_le, ◌==◌, ◌&&◌, not, is_some}
use Rattle.std.specs.Prelude.{if◌then◌else◌, List, [], ◌∷◌, ◌++◌, length, map, Option, Some, None}
use Rattle.std.specs.Prelude.{Result, Ok, Err}
use Rattle.std.specs.List.{list_any, flat_map}
use Rattle.std.specs.Option.{option_map}
use Rattle.peers_msg.specs.declared.fault.WireCause.TheVariants.{BadField}
use Rattle.peers_msg.specs.declared.message.Message.{Message}
use Rattle.peers_msg.specs.declared.message.Message.TheVariants as messages
use Rattle.peers_msg.specs.Feed.{decoder_of}
use Rattle.peers_msg.specs.Message.{Reading, reading_of}
use Rattle.peers_msg.specs.Spelling.{message_spelling}
use Rattle.agg_types.specs.declared.config.Shape.{Shape}
use Rattle.agg_types.specs.declared.event.What.{What}
use Rattle.agg_types.specs.declared.event.What.TheVariants.{Open}
use Rattle.agg_types.specs.declared.limits.TheConstants.{MOST_FOLLOWED}
use Rattle.session_core.specs.declared.cause.End.{End as Ending}
use Rattle.session_core.specs.declared.cause.End.TheVariants.{Refused, Wire, PeerError}
use Rattle.session_core.specs.declared.cause.Status.{Status}
use Rattle.session_core.specs.declared.stage.Stage.{Stage}
use Rattle.session_core.specs.declared.stage.Stage.TheVariants.{Greeting, Talking, Over}
use Rattle.session_core.specs.declared.track.Entry.{Entry}
use Rattle.session_core.specs.declared.track.Followed.{Followed}
use Rattle.session_core.specs.Meaning.{Meaning, Nothing, Confirm, Partial, Fact, End}
use Rattle.session_core.specs.Batched.{Batched}
use Rattle.session_core.specs.Hello.{hello_of}
use Rattle.session_core.specs.InForce.{followed_ids, followed_under, id_in_force, is_updated}
use Rattle.session_core.specs.InForce.{last_id, table_in_force}
use Rattle.session_core.specs.Piece.{Setup, end_text, first_end, status_text, welcome}
use Rattle.session_core.specs.Run.{resync_confirm, resync_partial}
use Rattle.session_core.specs.Tracked.{Tracked, followed_of, place, place_if, put_of}

-- the row of an update, or the end where its key or a value is cut short or over
abbrev pub row_or_end : Option What → Meaning
row_or_end None = End (Wire BadField)
row_or_end (Some put) = Fact put

-- an update under the table in force; without one it is skipped
abbrev pub update_under : List Shape → ℕ → Option Followed → Option ℕ → List ℕ → Meaning
update_under tables peer None life rest = Nothing
update_under tables peer (Some followed) life rest =
    row_or_end (put_of tables peer followed life rest)

-- whether a definition is followed, of an id that wasn't before, with as many that were as may be
abbrev pub is_too_many : Bool → ℕ → List ℕ → Bool
is_too_many followed id ids =
    followed && not (list_any (λ other. other == id) ids) && nat_le MOST_FOLLOWED (length ids)

-- what a message means behind those before it, newest first
unfoldable pub meaning : List Shape → ℕ → List Message → Message → Meaning
meaning tables peer past messages.Request = Partial
meaning tables peer past messages.Finished = Confirm
meaning tables peer past messages.Partial = Confirm
meaning tables peer past messages.Confirm = Nothing
meaning tables peer past messages.Heartbeat = Nothing
meaning tables peer past messages.ProtocolError = End PeerError
meaning tables peer past messages.SizeError = End PeerError
meaning tables peer past (messages.Update id life rest) =
    update_under tables peer (table_in_force tables past) life rest
meaning tables peer past (messages.Define definition) =
    if is_too_many (is_some (followed_of tables definition)) definition.id
    (followed_ids tables past) then End (Wire BadField) else Nothing
meaning tables peer past (messages.Switch id) = Nothing
meaning tables peer past (messages.Acked id last) = Nothing
meaning tables peer past (messages.Other class kind) = Nothing

-- some messages: how many stand before the end, what they tell and say, and the end that a message
-- shows
pub record Words : Type 0 where
  pub past : List Message
  pub count : ℕ
  pub facts : List What
  pub replies : List ℕ
  pub end : Option Ending

abbrev pub after_one : List What → List ℕ → Words → Words
after_one facts replies words =
    record {
      past = words.past;
      count = suc words.count;
      facts = facts ++ words.facts;
      replies = replies ++ words.replies;
      end = words.end;
    }

-- a message and those behind it, unless it shows the end
abbrev pub words_on : List Message → Words → Meaning → Words
words_on past next Nothing = after_one [] [] next
words_on past next Confirm = after_one [] resync_confirm next
words_on past next Partial = after_one [] resync_partial next
words_on past next (Fact fact) = after_one (fact ∷ []) [] next
words_on past next (End end) =
    record { past = past; count = 0; facts = []; replies = []; end = Some end }

-- messages behind those before them; nothing after the end is read
unfoldable pub words_of : List Shape → ℕ → List Message → List Message → Words
words_of tables peer past [] =
    record { past = past; count = 0; facts = []; replies = []; end = None }
words_of tables peer past (message ∷ messages) =
    words_on past (words_of tables peer (message ∷ past) messages)
    (meaning tables peer past message)

-- the acknowledgement of each id that had a followed update among so many of the newest messages,
-- ascending
unfoldable pub acks_among : List Shape → ℕ → List Message → List ℕ
acks_among tables newest past =
    flat_map (λ id. if is_updated tables id newest past
    then message_spelling (messages.Acked id (last_id tables id past))
    else []) (followed_ids tables past)

-- what a session keeps of an id after these messages, of which so many are this piece's
abbrev pub entry_for : List Shape → ℕ → List Message → ℕ → Entry
entry_for tables newest past id =
    record {
      id = id;
      last = last_id tables id past;
      updated = is_updated tables id newest past;
      followed = followed_under tables id past;
    }

abbrev pub entries_for : List Shape → ℕ → List Message → List Entry
entries_for tables newest past = map (entry_for tables newest past) (followed_ids tables past)

abbrev pub current_for : List Shape → List Message → List Entry → Option ℕ → Option ℕ
current_for tables past entries None = None
current_for tables past entries (Some id) =
    place_if (followed_under tables id past) (place id entries)

-- what it keeps of all: the followed ids, and which is in force
abbrev pub track_for : List Shape → ℕ → List Message → Tracked
track_for tables newest past =
    record {
      entries = entries_for tables newest past;
      current = current_for tables past (entries_for tables newest past) (id_in_force past);
    }

-- what a session told the fleet and said to its peer, up to its end if that came, and the messages
-- before the end, newest first
pub record Talk : Type 0 where
  pub facts : List What
  pub replies : List ℕ
  pub end : Option Ending
  pub past : List Message
  pub count : ℕ

abbrev pub said_at : Option Ending → List ℕ
said_at None = []
said_at (Some end) = end_text end

abbrev pub accepted_talk : ℕ → Words → Option Ending → Talk
accepted_talk peer words end =
    record {
      facts = Open peer ∷ words.facts;
      replies = welcome ++ (words.replies ++ said_at end);
      end = end;
      past = words.past;
      count = words.count;
    }

-- the words of the messages of a reading, and their end or else that of the stream
abbrev pub words_read : List Shape → ℕ → Reading → Words
words_read tables peer reading = words_of tables peer [] reading.messages

abbrev pub end_read : List Shape → ℕ → Reading → Option Ending
end_read tables peer reading =
    first_end (words_read tables peer reading).end (option_map (λ wire. Wire wire) reading.fault)

abbrev pub talk_read : List Shape → ℕ → Reading → Talk
talk_read tables peer reading =
    accepted_talk peer (words_read tables peer reading) (end_read tables peer reading)

abbrev pub talk_after : List Shape → Result (Option (ℕ × List ℕ)) Status → Talk
talk_after tables (Ok None) = record { facts = []; replies = []; end = None; past = []; count = 0 }
talk_after tables (Err status) =
    record {
      facts = [];
      replies = status_text status;
      end = Some (Refused status);
      past = [];
      count = 0;
    }
talk_after tables (Ok (Some hello)) = talk_read tables hello.0 (reading_of hello.1)

-- the talk of all the bytes so far
unfoldable pub talk : Setup → Bool → List ℕ → Talk
talk setup seated bytes = talk_after setup.tables (hello_of setup.me setup.peers seated bytes)

abbrev pub stage_at : List Shape → ℕ → Reading → Option Ending → Stage
stage_at tables peer reading None =
    Talking (record {
      peer = peer;
      feed = decoder_of reading;
      track = track_for tables 0 (words_read tables peer reading).past;
    })
stage_at tables peer reading (Some end) = Over end (Some peer)

abbrev pub stage_after : List Shape → List ℕ → Result (Option (ℕ × List ℕ)) Status → Stage
stage_after tables bytes (Ok None) = Greeting bytes
stage_after tables bytes (Err status) = Over (Refused status) None
stage_after tables bytes (Ok (Some hello)) =
    stage_at tables hello.0 (reading_of hello.1) (end_read tables hello.0 (reading_of hello.1))

-- where a session stands after these bytes
unfoldable pub stage_of : Setup → Bool → List ℕ → Stage
stage_of setup seated bytes =
    stage_after setup.tables bytes (hello_of setup.me setup.peers seated bytes)

-- what a piece gives is what the talk has with it beyond the talk without it
pub record Grows (setup : Setup) (old new : Talk) (batch : Batched) : Type 0 where
  pub facts : new.facts ≡ old.facts ++ batch.facts
  pub replies : new.replies ≡ old.replies ++ batch.replies
  pub acks : batch.acks ≡ acks_among setup.tables (new.count - old.count) new.past
