-- A receiver of a session's bytes: the table in force, and the entries that updates made.
use Rattle.std.specs.Prelude.{◌≡◌, ◌≤◌, ◌+◌, ℕ, Bool, true, false, ◌&&◌, ◌==◌, nat_lt, List, []}
use Rattle.std.specs.Prelude.{◌∷◌, ◌++◌, length, take, drop, if◌then◌else◌, Option, None, Some}
use Rattle.std.specs.Prelude.{option_to_list, slice_index_or}
use Rattle.std.specs.List.{AllByRecursion}
use Rattle.std.specs.Option.{option_map}
use Rattle.std.specs.Str.{bytes_eq}
use Rattle.agg_types.specs.Fits.{key_fits}
use Rattle.agg_types.specs.Kind.{kind_number}
use Rattle.agg_types.specs.declared.config.KeyKind.TheVariants.{Str}
use Rattle.peers_msg.specs.Message.{reading_of}
use Rattle.peers_msg.specs.Payload.{◌>>=◌, number_at, string_at}
use Rattle.peers_msg.specs.declared.message.Definition.{Definition}
use Rattle.peers_msg.specs.declared.message.Message.{Message}
use Rattle.peers_msg.specs.declared.message.Message.TheVariants as messages
use Rattle.pushed_keys.specs.declared.pushed.Pushed.{Pushed}
use Rattle.telling.specs.Telling.{Told, asked, told_after, turn_text}
use Rattle.turn_laws.specs.Heard.{force_behind, heard}
use Rattle.turn_laws.specs.Keys.{AreSets}
use Rattle.turn_laws.specs.Session.{Asked, Step, Turned}

-- of a table, by its id, a key, the moment from which on it is gone, and its count, which is gpc0
pub record Entry : Type 0 where
  pub table : ℕ
  pub key : List ℕ
  pub gone : ℕ
  pub count : ℕ

-- the table in force, and the entries, the newest first
pub record Receiver : Type 0 where
  pub force : Option Definition
  pub entries : List Entry

-- a receiver that has read nothing
abbrev pub new_receiver : Receiver
new_receiver = record { force = None; entries = [] }

abbrev pub with_count : List ℕ → List ℕ → Option (List ℕ × ℕ)
with_count key rest = number_at rest >>= λ count. Some (key, count.0)

-- the number of strings, whatever their length
abbrev pub string_number : ℕ
string_number = kind_number (Str 0)

-- the key and the count of an update, by its table's type and length of keys: a string stands
-- behind its length, and any other key has the table's
abbrev pub key_and_count : ℕ → ℕ → List ℕ → Option (List ℕ × ℕ)
key_and_count kind len rest =
    if kind == string_number then (string_at rest >>= λ text. with_count text.0 text.1)
    else if nat_lt (length rest) len then None
    else with_count (take len rest) (drop len rest)

-- the entry that an update makes at a moment, under the table in force
abbrev pub entry_of : ℕ → Option Definition → Message → List Entry
entry_of now (Some table) (messages.Update id (Some life) rest) =
    option_to_list (option_map
    (λ read. record { table = table.id; key = read.0; gone = now + life; count = read.1 })
    (key_and_count table.kind table.len rest))
entry_of now force message = []

abbrev pub entries_after : ℕ → List (Option Definition × Message) → List Entry → List Entry
entries_after now [] entries = entries
entries_after now (update ∷ others) entries =
    entries_after now others (entry_of now update.0 update.1 ++ entries)

-- a receiver behind messages, which it reads at a moment
abbrev pub reads : ℕ → List Message → Receiver → Receiver
reads now messages receiver =
    record {
      force = force_behind receiver.force messages;
      entries = entries_after now (heard receiver.force messages) receiver.entries;
    }

-- a receiver behind a session's steps, which reads the bytes of each turn at the turn's moment
abbrev pub receiver_behind : List Pushed → Told → List Step → Receiver → Receiver
receiver_behind pushed told [] receiver = receiver
receiver_behind pushed told (Turned sets now ∷ steps) receiver =
    receiver_behind pushed (told_after pushed sets now told) steps
    (reads now (reading_of (turn_text pushed sets now told)).messages receiver)
receiver_behind pushed told (Asked ∷ steps) receiver =
    receiver_behind pushed (asked told) steps receiver

-- the entry of a key that was made last
abbrev pub newest : ℕ → List ℕ → List Entry → Option Entry
newest table key [] = None
newest table key (entry ∷ entries) =
    if (entry.table == table) && bytes_eq key entry.key then Some entry
    else newest table key entries

-- whether an entry isn't gone and its gpc0 is 1
abbrev pub is_flagged : ℕ → Option Entry → Bool
is_flagged now None = false
is_flagged now (Some entry) = nat_lt now entry.gone && (entry.count == 1)

-- The moments of turns don't fall, from one on up to another. Their sets are in order, and the keys
-- of the set at a place are of the table's kind.
abbrev pub AreTurns : Pushed → ℕ → ℕ → List Step → ℕ → Type 0
AreTurns table place since [] until = since ≤ until
AreTurns table place since (Turned sets now ∷ steps) until =
    (since ≤ now) × AreSets sets
    × AllByRecursion (λ key. key_fits table.kind key ≡ true) (slice_index_or sets place [])
    × AreTurns table place now steps until
AreTurns table place since (Asked ∷ steps) until = AreTurns table place since steps until
