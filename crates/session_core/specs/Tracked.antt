-- What a session keeps of its sender's tables: for each id that was ever followed its last update
-- id and its definition.
use Rattle.std.specs.Prelude.{◌≡◌, ℕ, ◌+◌, ◌%◌, ◌^◌, Bool, true, false, nat_le, nat_lt, ◌==◌, ◌&&◌}
use Rattle.std.specs.Prelude.{if◌then◌else◌, List, [], ◌∷◌, length, insert, position, slice_get}
use Rattle.std.specs.Prelude.{slice_set, Option, Some, None}
use Rattle.std.specs.Option.{option_map}
use Rattle.std.specs.Str.{bytes_eq}
use Rattle.peers_msg.specs.declared.fault.WireCause.TheVariants.{BadField}
use Rattle.peers_msg.specs.declared.message.Definition.{Definition}
use Rattle.peers_msg.specs.declared.message.Message.{Message}
use Rattle.peers_msg.specs.declared.message.Message.TheVariants as messages
use Rattle.peers_msg.specs.Payload.{◌>>=◌}
use Rattle.agg_types.specs.Kind.{kind_length, kind_number}
use Rattle.agg_types.specs.declared.config.KeyKind.{KeyKind}
use Rattle.agg_types.specs.declared.kind.KeyLength.{KeyLength}
use Rattle.agg_types.specs.declared.kind.KeyLength.TheVariants.{Exactly, AtMost}
use Rattle.agg_types.specs.declared.config.Shape.{Shape}
use Rattle.agg_types.specs.declared.event.What.{What}
use Rattle.agg_types.specs.declared.event.What.TheVariants.{Put}
use Rattle.agg_types.specs.declared.limits.TheConstants.{MOST_FOLLOWED}
use Rattle.session_core.specs.declared.cause.End.TheVariants.{Wire, PeerError}
use Rattle.session_core.specs.declared.track.Followed.{Followed}
use Rattle.session_core.specs.declared.track.Entry.{Entry}
use Rattle.session_core.specs.Meaning.{Meaning, Nothing, Confirm, Partial, Fact, End, IsHeard}
use Rattle.session_core.specs.declared.track.Heard.{Heard}
use Rattle.session_core.specs.Lives.{life_of}
use Rattle.update_values.specs.Layout.{layout_of}
use Rattle.update_values.specs.Values.{cells_at, key_at}

-- the ids' entries, ascending by id, and the place of the one in force, if it is followed
pub record Tracked : Type 0 where
  pub entries : List Entry
  pub current : Option ℕ

-- whether a definition's length of keys is a table's; where a table's keys differ in length, it
-- isn't compared
abbrev pub is_length_of : KeyLength → ℕ → Bool
is_length_of (Exactly exact) len = len == exact
is_length_of (AtMost most) len = true

-- whether a definition's key is that of a table: its number and its length
abbrev pub is_key_of : KeyKind → ℕ → ℕ → Bool
is_key_of kind number len = number == kind_number kind && is_length_of (kind_length kind) len

-- what a definition says for the table at this position
abbrev pub followed_as : ℕ → Definition → Followed
followed_as table definition =
    record {
      table = table;
      expiry = definition.expiry;
      layout = layout_of definition;
    }

-- the same, if its key is that table's
unfoldable pub followed_at : ℕ → Definition → Shape → Option Followed
followed_at table definition shape =
    if is_key_of shape.kind definition.kind definition.len then Some (followed_as table definition)
    else None

-- a definition is followed if its name is configured and its key is that table's
unfoldable pub followed_of : List Shape → Definition → Option Followed
followed_of tables definition = do
  table ← position (λ shape. bytes_eq shape.name definition.name) tables
  shape ← slice_get tables table
  followed_at table definition shape

-- the row that an update gives; None where its key or a value is cut short or over
unfoldable pub put_of : List Shape → ℕ → Followed → Option ℕ → List ℕ → Option What
put_of tables peer followed life bytes = do
  shape ← slice_get tables followed.table
  key ← key_at shape.kind bytes
  cells ← cells_at followed.layout shape.cols key.1
  Some (Put peer followed.table key.0 (life_of shape.keep followed.expiry life) cells)

-- an update's id: the explicit one, or the one after the last
abbrev pub id_after : ℕ → Option ℕ → ℕ
id_after last None = (last + 1) % 2 ^ 32
id_after last (Some id) = id

-- the place of an id among ascending entries: how many have a smaller one
abbrev pub place : ℕ → List Entry → ℕ
place id [] = 0
place id (entry ∷ entries) = if nat_lt entry.id id then 1 + place id entries else 0

abbrev pub if_own : ℕ → Option Entry → Option Entry
if_own id None = None
if_own id (Some entry) = if entry.id == id then Some entry else None

-- the entry of an id
abbrev pub entry_of : ℕ → List Entry → Option Entry
entry_of id entries = if_own id (slice_get entries (place id entries))

-- what a message does, and what is kept after it
pub record Step : Type 0 where
  pub track : Tracked
  pub meaning : Meaning

-- a place, if what stands there is followed
abbrev pub place_if : Option Followed → ℕ → Option ℕ
place_if followed at = option_map (λ _. at) followed

-- nothing for the peer or the fleet, and these entries, of which the one at this place is in force
abbrev pub quiet_step : List Entry → Option ℕ → Step
quiet_step entries current =
    record { track = record { entries = entries; current = current }; meaning = Nothing }

-- the session ends, and what is kept stays
abbrev pub end_step : Tracked → Step
end_step t = record { track = t; meaning = End (Wire BadField) }

-- an id that is followed for the first time
abbrev pub new_entry : ℕ → Followed → Entry
new_entry id followed = record { id = id; last = 0; updated = false; followed = Some followed }

-- a definition of an id that has this entry
abbrev pub defined : Tracked → ℕ → Option Followed → Option Entry → Step
defined t id followed (Some entry) =
    quiet_step (slice_set t.entries (place id t.entries) (record entry { followed = followed }))
    (place_if followed (place id t.entries))
defined t id None None = quiet_step t.entries None
defined t id (Some followed) None =
    if nat_le MOST_FOLLOWED (length t.entries) then end_step t
    else quiet_step (insert t.entries (place id t.entries) (new_entry id followed))
    (Some (place id t.entries))

-- the place of an entry that may be followed
abbrev pub place_of : Option Entry → ℕ → Option ℕ
place_of None at = None
place_of (Some entry) at = place_if entry.followed at

abbrev pub switched : Tracked → ℕ → Step
switched t id = quiet_step t.entries (place_of (entry_of id t.entries) (place id t.entries))

-- an entry that has an update, with this id or the next
abbrev pub updated_entry : Entry → Option ℕ → Entry
updated_entry entry id = record entry { last = id_after entry.last id; updated = true }

-- a row under the entry at this place, or the end where it can't be read
abbrev pub updated_by : Tracked → ℕ → Entry → Option ℕ → Option What → Step
updated_by t at entry id None = end_step t
updated_by t at entry id (Some put) =
    record {
      track = record {
        entries = slice_set t.entries at (updated_entry entry id);
        current = t.current;
      };
      meaning = Fact put;
    }

-- an update under the entry at this place, if it is followed
abbrev pub updated_at : List Shape → ℕ → Tracked → ℕ → Entry → Option Followed → Option ℕ → Option ℕ
    → List ℕ → Step
updated_at tables peer t at entry None id life bytes = record { track = t; meaning = Nothing }
updated_at tables peer t at entry (Some followed) id life bytes =
    updated_by t at entry id (put_of tables peer followed life bytes)

abbrev pub updated_if : List Shape → ℕ → Tracked → ℕ → Option Entry → Option ℕ → Option ℕ → List ℕ
    → Step
updated_if tables peer t at None id life bytes = record { track = t; meaning = Nothing }
updated_if tables peer t at (Some entry) id life bytes =
    updated_at tables peer t at entry entry.followed id life bytes

abbrev pub updated_under : List Shape → ℕ → Tracked → Option ℕ → Option ℕ → Option ℕ → List ℕ → Step
updated_under tables peer t None id life bytes = record { track = t; meaning = Nothing }
updated_under tables peer t (Some at) id life bytes =
    updated_if tables peer t at (slice_get t.entries at) id life bytes

-- what a message does to what is kept
unfoldable pub step_of : List Shape → ℕ → Tracked → Message → Step
step_of tables peer t messages.Request = record { track = t; meaning = Partial }
step_of tables peer t messages.Finished = record { track = t; meaning = Confirm }
step_of tables peer t messages.Partial = record { track = t; meaning = Confirm }
step_of tables peer t messages.Confirm = record { track = t; meaning = Nothing }
step_of tables peer t messages.Heartbeat = record { track = t; meaning = Nothing }
step_of tables peer t messages.ProtocolError = record { track = t; meaning = End PeerError }
step_of tables peer t messages.SizeError = record { track = t; meaning = End PeerError }
step_of tables peer t (messages.Update id life rest) =
    updated_under tables peer t t.current id life rest
step_of tables peer t (messages.Define definition) =
    defined t definition.id (followed_of tables definition) (entry_of definition.id t.entries)
step_of tables peer t (messages.Switch id) = switched t id
step_of tables peer t (messages.Acked id last) = record { track = t; meaning = Nothing }
step_of tables peer t (messages.Other class kind) = record { track = t; meaning = Nothing }

-- what is kept, and what was heard and told, are those of the step
abbrev pub IsStep : Tracked → Heard → List What → List What → Step → Type 0
IsStep track heard old new step = (track ≡ step.track) × IsHeard heard old new step.meaning
