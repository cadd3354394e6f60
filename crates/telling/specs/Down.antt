-- How what a turn took down is written, message by message.
use Rattle.std.specs.Prelude.{◌≡◌, ◌↔◌, ◌≤◌, ◌-◌, ◌+◌, ◌==◌, if◌then◌else◌, ℕ, List, [], ◌∷◌, ◌++◌}
use Rattle.std.specs.Prelude.{Bool, true, false, length, drop}
use Rattle.peers_msg.specs.Spelling.{message_spelling}
use Rattle.peers_msg.specs.declared.message.Message.{Message}
use Rattle.peers_msg.specs.declared.message.Message.TheVariants as messages
use Rattle.pushed_keys.specs.Turns.{AreSaid, next_id}
use Rattle.pushed_keys.specs.declared.pushed.Pushed.{Pushed}
use Rattle.pushed_keys.specs.declared.told.UnsaidTable.{UnsaidTable}
use Rattle.telling.specs.Telling.{definition_of, update_of}
use Rattle.telling.specs.Unsaid.{Unsaid, unsaid_messages, unsaid_updates}
use Rattle.telling.specs.declared.unsaid.Found.{Found}
use Rattle.telling.specs.declared.unsaid.Step.{Step}
use Rattle.telling.specs.declared.unsaid.TheConstants.{PIECE}

-- the table that is defined last behind these
abbrev pub defined_behind : ℕ → ℕ → List UnsaidTable → ℕ
defined_behind defined before [] = defined
defined_behind defined before (table ∷ tables) =
    defined_behind (if length table.changes == 0 then defined else before + 1) (before + 1) tables

-- nothing is left of the tables between two places
pub record ArePast (place to : ℕ) (tables : List UnsaidTable) : Type 0 where
  pub on : place ≤ to
  pub none : AreSaid (drop place tables) ↔ AreSaid (drop to tables)
  pub same : (defined : ℕ) (pushed : List Pushed)
      → unsaid_updates defined place (drop place pushed) (drop place tables)
      ≡ unsaid_updates defined to (drop to pushed) (drop to tables)

-- this is the first change that is left of these tables from a place on
pub record IsFirstLeft (place : ℕ) (tables : List UnsaidTable) (found : Found) : Type 0 where
  pub table : UnsaidTable
  pub others : List UnsaidTable
  pub past : ArePast place found.place tables
  pub here : drop found.place tables ≡ table ∷ others
  pub last : table.last ≡ found.last
  pub first : table.changes ≡ (found.key.now, found.change) ∷ drop 1 table.changes

-- what is written next of a table: an update where the table is defined last, else its definition
abbrev pub next_message : Bool → ℕ → Pushed → Found → Message
next_message true id pushed found =
    update_of pushed (next_id found.last) found.key.now found.change
next_message false id pushed found = messages.Define (definition_of id pushed)

-- one update of the first of these tables is written
abbrev pub one_said : List UnsaidTable → List UnsaidTable
one_said [] = []
one_said (table ∷ tables) =
    record { last = next_id table.last; changes = drop 1 table.changes } ∷ tables

-- what is left behind a step
abbrev pub behind : Step → Unsaid → Unsaid
behind step unsaid =
    let left : List UnsaidTable = drop (step.place - unsaid.before) unsaid.tables in
    record {
      undefined = step.undefined;
      defined = step.defined;
      before = step.place;
      tables = if step.is_update then one_said left else left;
    }

-- these bytes are the next message, and the step leaves what stands behind it
pub record IsNext (pushed : List Pushed) (unsaid : Unsaid) (step : Step) (bytes : List ℕ)
    : Type 0 where
  pub message : Message
  pub spelled : bytes ≡ message_spelling message
  pub on : unsaid.before ≤ step.place
  pub left : unsaid_messages pushed unsaid ≡ message ∷ unsaid_messages pushed (behind step unsaid)

-- one message more is written, which fits
pub record IsFurther (pushed : List Pushed) (old new : Unsaid) (was piece : List ℕ)
    : Type 0 where
  pub message : Message
  pub left : unsaid_messages pushed old ≡ message ∷ unsaid_messages pushed new
  pub says : piece ≡ was ++ message_spelling message
  pub small : length piece ≤ PIECE
