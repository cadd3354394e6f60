-- What a turn writes, as messages, and what was told behind it. The tables are numbered from 1.
use Rattle.std.specs.Prelude.{◌≡◌, ℕ, ◌+◌, true, false, ◌==◌, if◌then◌else◌}
use Rattle.std.specs.Prelude.{List, [], ◌∷◌, ◌++◌, length, map, filter, slice_index_or, min}
use Rattle.std.specs.Prelude.{Some, slice_get}
use Rattle.std.specs.List.{flat_map}
use Rattle.std.specs.Option.{option_map_or}
use Rattle.agg_types.specs.Kind.{kind_length, kind_number}
use Rattle.agg_types.specs.declared.config.KeyKind.{KeyKind}
use Rattle.agg_types.specs.declared.kind.KeyLength.{KeyLength}
use Rattle.agg_types.specs.declared.kind.KeyLength.TheVariants.{Exactly, AtMost}
use Rattle.agg_types.specs.declared.limits.TheConstants.{LONGEST_KEY}
use Rattle.peers_msg.specs.Spelling.{integer_spelling, message_spelling}
use Rattle.peers_msg.specs.declared.message.Definition.{Definition}
use Rattle.peers_msg.specs.declared.message.Message.{Message}
use Rattle.peers_msg.specs.declared.message.Message.TheVariants as messages
use Rattle.pushed_keys.specs.Moves.{AreInOrder, marked}
use Rattle.pushed_keys.specs.Rules.{is_told}
use Rattle.pushed_keys.specs.Stands.{stands}
use Rattle.pushed_keys.specs.Turns.{changes, next_id, no_table, told_table}
use Rattle.pushed_keys.specs.declared.change.Change.{Change}
use Rattle.pushed_keys.specs.declared.change.Change.TheVariants.{Put, TakeAway}
use Rattle.pushed_keys.specs.declared.change.Turn.{Turn}
use Rattle.pushed_keys.specs.declared.pushed.Pushed.{Pushed}
use Rattle.pushed_keys.specs.declared.told.Mark.{Mark}
use Rattle.pushed_keys.specs.declared.told.ToldTable.{ToldTable}
pub use Rattle.telling.specs.Told.{Told, untold, asked}

-- a length of keys in a definition, in bytes; where keys differ in length, it counts one more
abbrev pub length_told : KeyLength → ℕ
length_told (Exactly exact) = exact
length_told (AtMost most) = min most LONGEST_KEY + 1

-- the length of a kind's keys in a definition
abbrev pub key_length : KeyKind → ℕ
key_length kind = length_told (kind_length kind)

-- a key, which stands behind its own length where keys differ in length
abbrev pub spelling_under : KeyLength → List ℕ → List ℕ
spelling_under (Exactly exact) key = key
spelling_under (AtMost most) key = integer_spelling (length key) ++ key

-- a key as its kind's updates have it
abbrev pub key_spelling : KeyKind → List ℕ → List ℕ
key_spelling kind key = spelling_under (kind_length kind) key

-- a pushed table, which stores gpc0 alone
abbrev pub definition_of : ℕ → Pushed → Definition
definition_of id pushed =
    record {
      id = id;
      name = pushed.name;
      kind = kind_number pushed.kind;
      len = key_length pushed.kind;
      bits = 4;
      expiry = pushed.life;
      periods = [];
      arrays = [];
    }

-- a put has the table's life and gpc0 1, a take-away a life of 1 ms and gpc0 0
abbrev pub update_of : Pushed → ℕ → List ℕ → Change → Message
update_of pushed id key Put =
    messages.Update (Some id) (Some pushed.life) (key_spelling pushed.kind key ++ 1 ∷ [])
update_of pushed id key TakeAway =
    messages.Update (Some id) (Some 1) (key_spelling pushed.kind key ++ 0 ∷ [])

-- the updates of these changes, numbered behind the last id
abbrev pub updates : Pushed → ℕ → List (List ℕ × Change) → List Message
updates pushed last [] = []
updates pushed last (change ∷ others) =
    update_of pushed (next_id last) change.0 change.1 ∷ updates pushed (next_id last) others

-- what a turn says of a table: its id, its updates, and what was told of it behind them
pub record TableTurn : Type 0 where
  pub id : ℕ
  pub pushed : Pushed
  pub updates : List Message
  pub after : ToldTable

-- what a turn says of a table, whose filter has this set
unfoldable pub table_turn : Turn → ℕ → Pushed → List (List ℕ) → ToldTable → TableTurn
table_turn turn id pushed set told =
    record {
      id = id;
      pushed = pushed;
      updates = updates pushed told.last (changes pushed turn (stands set told.marks));
      after = told_table turn pushed set told;
    }

-- what a turn says of these tables, the first of which stands behind so many others
unfoldable pub table_turns : Turn → List (List (List ℕ)) → List ToldTable → ℕ → List Pushed
    → List TableTurn
table_turns turn sets told before [] = []
table_turns turn sets told before (pushed ∷ others) =
    table_turn turn (before + 1) pushed (slice_index_or sets before [])
    (slice_index_or told before no_table) ∷ table_turns turn sets told (before + 1) others

-- a definition, unless the table is the one defined last
abbrev pub define_unless : ℕ → ℕ → Pushed → List Message
define_unless defined id pushed =
    if defined == id then [] else messages.Define (definition_of id pushed) ∷ []

-- updates of a table, each behind its definition or another update of it
abbrev pub with_definition : ℕ → ℕ → Pushed → List Message → List Message
with_definition defined id pushed [] = []
with_definition defined id pushed (update ∷ others) =
    define_unless defined id pushed ++ update ∷ with_definition id id pushed others

-- the table that is defined last behind them
abbrev pub defined_after : ℕ → ℕ → List Message → ℕ
defined_after defined id [] = defined
defined_after defined id (update ∷ others) = id

-- the updates of tables, one table after the other
unfoldable pub update_messages : ℕ → List TableTurn → List Message
update_messages defined [] = []
update_messages defined (table ∷ others) =
    with_definition defined table.id table.pushed table.updates
    ++ update_messages (defined_after defined table.id table.updates) others

-- the table that is defined last behind them
unfoldable pub last_defined : ℕ → List TableTurn → ℕ
last_defined defined [] = defined
last_defined defined (table ∷ others) =
    last_defined (defined_after defined table.id table.updates) others

-- the definitions of these tables, the first of which stands behind so many others
unfoldable pub definitions : ℕ → List Pushed → List Message
definitions before [] = []
definitions before (pushed ∷ others) =
    messages.Define (definition_of (before + 1) pushed) ∷ definitions (before + 1) others

-- the first turn begins with the definitions of all tables
abbrev pub first_definitions : List Pushed → Told → List Message
first_definitions pushed told = if told.begun then [] else definitions 0 pushed

-- the table that is defined last before a turn's updates
abbrev pub defined_before : List Pushed → Told → ℕ
defined_before pushed told = if told.begun then told.defined else length pushed

-- a turn at this moment
abbrev pub turn_at : ℕ → Told → Turn
turn_at now told = record { now = now; anew = told.anew }

-- what a turn over these sets at this moment says of each table
abbrev pub turns : List Pushed → List (List (List ℕ)) → ℕ → Told → List TableTurn
turns pushed sets now told = table_turns (turn_at now told) sets told.tables 0 pushed

-- the messages of a turn
abbrev pub turn_messages : List Pushed → List (List (List ℕ)) → ℕ → Told → List Message
turn_messages pushed sets now told =
    first_definitions pushed told
    ++ update_messages (defined_before pushed told) (turns pushed sets now told)

-- the bytes of messages
abbrev pub text_of : List Message → List ℕ
text_of = flat_map message_spelling

-- the bytes that a turn over these sets at this moment writes
unfoldable pub turn_text : List Pushed → List (List (List ℕ)) → ℕ → Told → List ℕ
turn_text pushed sets now told = text_of (turn_messages pushed sets now told)

-- what was told behind it
unfoldable pub told_after : List Pushed → List (List (List ℕ)) → ℕ → Told → Told
told_after pushed sets now told =
    record {
      tables = map (λ table. table.after) (turns pushed sets now told);
      defined = last_defined (defined_before pushed told) (turns pushed sets now told);
      begun = true;
      anew = false;
    }

-- a table of what was told, by its place
abbrev pub table_at : Told → ℕ → ToldTable
table_at told place = slice_index_or told.tables place no_table

-- the marks of each pushed table, by its place, are in order
abbrev pub AreOrdered : List Pushed → Told → Type 0
AreOrdered pushed told = (place : ℕ) (table : Pushed) → slice_get pushed place ≡ Some table
    → AreInOrder (marked (table_at told place).marks)

-- the keys that these marks tell at a moment: those that were put and not taken away, and whose
-- life hasn't gone by
abbrev pub keys_told : Pushed → ℕ → List Mark → List (List ℕ)
keys_told pushed now marks =
    map (λ mark. mark.key) (filter (λ mark. is_told pushed now mark.put) marks)

-- the keys of a pushed table, by its place, that are told at a moment
unfoldable pub told_keys : List Pushed → Told → ℕ → ℕ → List (List ℕ)
told_keys pushed told place now =
    option_map_or (λ table. keys_told table now (table_at told place).marks)
    (slice_get pushed place) []
