-- The messages of a turn, and the updates of one table among them.
use Rattle.std.specs.Prelude.{◌≡◌, ◌≤◌, ◌<◌, ◌+◌, ◌%◌, ◌^◌, ℕ, List, [], ◌∷◌, ◌++◌, length, map}
use Rattle.std.specs.Prelude.{Contains, Option, Some, slice_get}
use Rattle.std.specs.List.{AllByRecursion, enumerate_from}
use Rattle.std.specs.Option.{option_map_or}
use Rattle.agg_types.specs.declared.limits.TheConstants.{LONGEST_NAME}
use Rattle.peers_msg.specs.declared.message.Message.{Message}
use Rattle.pushed_keys.specs.Rules.{change_of}
use Rattle.pushed_keys.specs.declared.change.Change.{Change}
use Rattle.pushed_keys.specs.declared.change.Turn.{Turn}
use Rattle.pushed_keys.specs.declared.pushed.Pushed.{Pushed}
use Rattle.pushed_keys.specs.declared.told.ToldTable.{ToldTable}
use Rattle.telling.specs.Telling.{Told, defined_before, define_unless, first_definitions}
use Rattle.telling.specs.Telling.{key_length, turns, update_of}
use Rattle.turn_laws.specs.Keys.{AreInOrder, change_for, is_in, put_of}

-- a table that has a definition: its name is one, and its numbers are in their ranges
pub record IsTable (table : Pushed) : Type 0 where
  pub name : length table.name ≤ LONGEST_NAME
  pub length : key_length table.kind < 2 ^ 64
  pub life : table.life < 2 ^ 32

pub record AreTables (pushed : List Pushed) : Type 0 where
  pub few : length pushed < 2 ^ 64
  pub each : AllByRecursion IsTable pushed

-- the updates that a turn writes of a table, by its place
abbrev pub updates_at : List Pushed → List (List (List ℕ)) → ℕ → Told → ℕ → List Message
updates_at pushed sets now told place =
    option_map_or (λ table. table.updates) (slice_get (turns pushed sets now told) place) []

-- the updates of a table, if there are any, behind its definition, unless it was defined last
abbrev pub section : ℕ → ℕ → Pushed → List Message → List Message
section last id table [] = []
section last id table (update ∷ others) = define_unless last id table ++ update ∷ others

-- the table that is defined last behind these
abbrev pub last_behind : ℕ → ℕ → List Message → ℕ
last_behind last id [] = last
last_behind last id (update ∷ others) = id

-- one table after the other, from the one at a place on, whose updates are said by place
abbrev pub sections : (ℕ → List Message) → ℕ → ℕ → List Pushed → List Message
sections said last place [] = []
sections said last place (table ∷ others) =
    section last (place + 1) table (said place)
    ++ sections said (last_behind last (place + 1) (said place)) (place + 1) others

-- the messages of a turn: the first begins with all definitions, and each has its tables
abbrev pub messages_of : List Pushed → List (List (List ℕ)) → ℕ → Told → List Message
messages_of pushed sets now told =
    first_definitions pushed told
    ++ sections (updates_at pushed sets now told) (defined_before pushed told) 0 pushed

-- updates whose ids count on from the last
abbrev pub numbered : Pushed → ℕ → List (List ℕ × Change) → List Message
numbered table last changes =
    map (λ n. update_of table ((last + n.0) % 2 ^ 32) n.1.0 n.1.1) (enumerate_from 1 changes)

-- The updates of a table are those of its changes. Each key stands there at most once, in the order
-- of bytes, and is changed by the rule for one key: by whether the set has it, and when it was put.
pub record Tells (table : Pushed) (turn : Turn) (set : List (List ℕ)) (old : ToldTable)
    (updates : List Message) : Type 0 where
  pub changes : List (List ℕ × Change)
  pub whole : updates ≡ numbered table old.last changes
  pub once : AreInOrder (map (λ change. change.0) changes)
  pub each : (key : List ℕ) → change_for key changes
      ≡ change_of table turn (is_in key set) (put_of key old.marks)

-- one of the updates puts a key, or takes it away
abbrev pub Has : List Message → Pushed → List ℕ → Change → Type 0
Has updates table key change = (id : ℕ) × Contains updates (update_of table id key change)

-- this message is an update of a key, whichever its id and its change
abbrev pub IsUpdateOf : Pushed → List ℕ → Option Message → Type 0
IsUpdateOf table key message =
    (id : ℕ) × (change : Change) × (message ≡ Some (update_of table id key change))
