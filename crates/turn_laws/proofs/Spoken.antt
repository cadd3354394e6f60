-- Messages that are written whole are read again, and those of a turn are.
use Rattle.std.proofs.Common.{◌≡◌, ℕ, ◌+◌, ◌^◌, ◌<◌, ◌≤◌, Bool, true, false, cond, List}
use Rattle.std.proofs.Common.{[], ◌∷◌, ◌++◌, length, map, None, Some, refl, ap}
use Rattle.std.proofs.Common.{◌∙◌, arith, length-append}
use Rattle.std.specs.Prelude.{nat_eq, slice_index_or}
use Rattle.std.specs.Int.{w32, to_be_bytes}
use Rattle.std.specs.List.{AllByRecursion}
use Rattle.std.proofs.lemmas.Cmp.{nat_eq_equiv}
use Rattle.agg_types.specs.Kind.{kind_number}
use Rattle.agg_types.specs.declared.config.KeyKind.{KeyKind}
use Rattle.agg_types.specs.declared.config.KeyKind.TheVariants.{Integer, Ip, Ipv6, Str, Binary}
use Rattle.agg_types.specs.declared.limits.TheConstants.{LONGEST_KEY, LONGEST_PAYLOAD}
use Rattle.peers_msg.specs.declared.message.Message.{Message}
use Rattle.peers_msg.specs.declared.message.Message.TheVariants as messages
use Rattle.peers_msg.specs.Message.{after_message, reading_of, reading_within}
use Rattle.peers_msg.specs.Spelling.{IsInRange, IsSendable, as_written}
use Rattle.peers_msg.specs.Spelling.{integer_spelling, word_spelling}
use Rattle.peers_msg.proofs.Again.{reading_again}
use Rattle.peers_msg.proofs.Numerals.{spelling_len}
use Rattle.pushed_keys.specs.Stands.{stands}
use Rattle.pushed_keys.specs.Turns.{no_table, changes, next_id}
use Rattle.pushed_keys.specs.declared.change.Change.{Change}
use Rattle.pushed_keys.specs.declared.change.Change.TheVariants.{Put, TakeAway}
use Rattle.pushed_keys.specs.declared.change.Turn.{Turn}
use Rattle.pushed_keys.specs.declared.pushed.Pushed.{Pushed}
use Rattle.pushed_keys.specs.declared.told.ToldTable.{ToldTable}
use Rattle.telling.specs.Told.{Told}
use Rattle.telling.specs.Telling.{TableTurn, defined_after, defined_before, define_unless}
use Rattle.telling.specs.Telling.{definition_of, definitions, first_definitions, key_length}
use Rattle.telling.specs.Telling.{key_spelling, table_turn, table_turns, text_of, turn_at}
use Rattle.telling.specs.Telling.{turn_text, turns, update_messages, update_of, updates}
use Rattle.telling.specs.Telling.{with_definition}
use Rattle.turn_laws.specs.Keys.{AreSets, AreShort, IsKept, keys_of}
use Rattle.turn_laws.specs.Written.{AreTables, IsTable}
use Rattle.turn_laws.proofs.ByTurn.{turn_behind, turn_messages_of, turn_section, turn_sections}
use Rattle.turn_laws.proofs.Sides.{each_changed, each_stand}

-- ---- what is written is read

-- a message that is written whole, as it is
abbrev pub IsSpoken : Message → Type 0
IsSpoken message = IsSendable message × IsInRange message × (as_written message ≡ message)

abbrev pub AreSpoken : List Message → Type 0
AreSpoken ms = AllByRecursion IsSpoken ms

nothing_read : reading_of [] ≡ record { messages = []; fault = None; rest = [] }
unfolding reading_of reading_within
nothing_read = refl

pub all_read : (ms : List Message) → AreSpoken ms
    → reading_of (text_of ms) ≡ record { messages = ms; fault = None; rest = [] }
all_read [] h = nothing_read
all_read (m ∷ ms) h =
    reading_again m (text_of ms) h.0.0 h.0.1
    ∙ ap (λ (n : Message). after_message n (reading_of (text_of ms))) h.0.2
    ∙ ap (after_message m) (all_read ms h.1)

spoken_append : (ms ns : List Message) → AreSpoken ms → AreSpoken ns → AreSpoken (ms ++ ns)
spoken_append [] ns h k = k
spoken_append (m ∷ ms) ns h k = (h.0, spoken_append ms ns h.1 k)

-- ---- each message

type_small : (kind : KeyKind) → kind_number kind < 8
type_small Integer = omega arith
type_small Ip = omega arith
type_small Ipv6 = omega arith
type_small (Str len) = omega arith
type_small (Binary len) = omega arith

definition_spoken : (id : ℕ) (table : Pushed) → id < 2 ^ 64 → IsTable table
    → IsSpoken (messages.Define (definition_of id table))
definition_spoken id table small h =
    let kind : kind_number table.kind < 2 ^ 64 = omega (arith, type_small table.kind) in
    let life : table.life < 2 ^ 64 = omega (arith, h.life) in
    let named : length table.name < 2 ^ 64 = omega (arith, h.name) in
    let l1 : length (integer_spelling id) ≤ 10 = spelling_len id small in
    let l2 : length (integer_spelling (length table.name)) ≤ 10 =
    spelling_len (length table.name) named in
    let l3 : length (integer_spelling (kind_number table.kind)) ≤ 10 =
    spelling_len (kind_number table.kind) kind in
    let l4 : length (integer_spelling (key_length table.kind)) ≤ 10 =
    spelling_len (key_length table.kind) h.length in
    let l5 : length (integer_spelling 4) ≤ 10 = spelling_len 4 (omega arith) in
    let l6 : length (integer_spelling table.life) ≤ 10 = spelling_len table.life life in
    let name : length table.name ≤ 128 = h.name in (
      simp length-append (omega (arith, l1, l2, l3, l4, l5, l6, name)),
      record {
        id = small;
        kind = kind;
        len = h.length;
        bits = omega arith;
        expiry = life;
        periods = tt;
        arrays = tt;
      },
      refl,
    )

key_small : (kind : KeyKind) (key : List ℕ) → length key ≤ 256
    → length (key_spelling kind key) ≤ 266
key_small Integer key short = omega arith
key_small Ip key short = omega arith
key_small Ipv6 key short = omega arith
key_small (Str len) key short =
    simp length-append (omega (arith, spelling_len (length key) (omega arith)))
key_small (Binary len) key short = omega arith

word_four : (n : ℕ) → length (to_be_bytes w32 n) ≡ 4
word_four n = refl

rest_small : (kind : KeyKind) (key : List ℕ) (id life byte : ℕ) → length key ≤ 256
    → length (word_spelling (Some id) ++ word_spelling (Some life)
    ++ (key_spelling kind key ++ byte ∷ [])) ≤ LONGEST_PAYLOAD
rest_small kind key id life byte short =
    simp length-append (omega (arith, word_four id, word_four life, key_small kind key short))

update_spoken : (table : Pushed) (id : ℕ) (key : List ℕ) (change : Change) → id < 2 ^ 32
    → table.life < 2 ^ 32 → length key ≤ LONGEST_KEY → IsSpoken (update_of table id key change)
update_spoken table id key Put small life short =
    (rest_small table.kind key id table.life 1 short, (small, life), refl)
update_spoken table id key TakeAway small life short =
    (rest_small table.kind key id 1 0 short, (small, omega arith), refl)

updates_spoken : (table : Pushed) (last : ℕ) (cs : List (List ℕ × Change)) → table.life < 2 ^ 32
    → AreShort (map (λ c. c.0) cs) → AreSpoken (updates table last cs)
updates_spoken table last [] life h = tt
updates_spoken table last (c ∷ cs) life h = (
  update_spoken table (next_id last) c.0 c.1 (omega arith) life h.0,
  updates_spoken table (next_id last) cs life h.1,
)

definitions_spoken : (before : ℕ) (ps : List Pushed) → before + length ps < 2 ^ 64
    → AllByRecursion IsTable ps → AreSpoken (definitions before ps)
unfolding definitions
definitions_spoken before [] small h = tt
definitions_spoken before (p ∷ ps) small h = (
  definition_spoken (before + 1) p (omega arith) h.0,
  definitions_spoken (before + 1) ps (omega arith) h.1,
)

-- ---- the messages of a turn

-- what a turn says of a table is written whole
pub record IsFine (t : TableTurn) : Type 0 where
  pub table : IsTable t.pushed
  pub id : t.id < 2 ^ 64
  pub updates : AreSpoken t.updates

section_spoken : (last : ℕ) (t : TableTurn) (us : List Message) → IsFine t → AreSpoken us
    → AreSpoken (turn_section last t us)
section_spoken last t [] fine h = tt
section_spoken last t (u ∷ us) fine h =
    spoken_append (define_unless last t.id t.pushed) (u ∷ us) (by (nat_eq last t.id)) h
  where
    by : (b : Bool)
        → AreSpoken (cond b [] (messages.Define (definition_of t.id t.pushed) ∷ []))
    by true = tt
    by false = (definition_spoken t.id t.pushed fine.id fine.table, tt)

sections_spoken : (last : ℕ) (ts : List TableTurn) → AllByRecursion IsFine ts
    → AreSpoken (turn_sections last ts)
sections_spoken last [] h = tt
sections_spoken last (t ∷ ts) h =
    spoken_append (turn_section last t t.updates) (turn_sections (turn_behind last t t.updates) ts)
    (section_spoken last t t.updates h.0 h.0.updates)
    (sections_spoken (turn_behind last t t.updates) ts h.1)

table_fine : (turn : Turn) (id : ℕ) (p : Pushed) (set : List (List ℕ)) (old : ToldTable)
    → IsTable p → id < 2 ^ 64 → AreShort set → AreShort (keys_of old.marks)
    → IsFine (table_turn turn id p set old)
unfolding table_turn
table_fine turn id p set old table small s k = record {
  table = table;
  id = small;
  updates = updates_spoken p old.last (changes p turn (stands set old.marks)) table.life
      (each_changed (λ key. length key ≤ LONGEST_KEY) p turn (stands set old.marks)
      (each_stand (λ key. length key ≤ LONGEST_KEY) set old.marks s k));
}

tables_fine : (turn : Turn) (sets : List (List (List ℕ))) (told : List ToldTable) (before : ℕ)
    (ps : List Pushed) → before + length ps < 2 ^ 64 → AllByRecursion IsTable ps
    → ((place : ℕ) → AreShort (slice_index_or sets place []))
    → ((place : ℕ) → AreShort (keys_of (slice_index_or told place no_table).marks))
    → AllByRecursion IsFine (table_turns turn sets told before ps)
unfolding table_turns
tables_fine turn sets told before [] small h s k = tt
tables_fine turn sets told before (p ∷ ps) small h s k = (
  table_fine turn (before + 1) p (slice_index_or sets before [])
      (slice_index_or told before no_table) h.0 (omega arith) (s before) (k before),
  tables_fine turn sets told (before + 1) ps (omega arith) h.1 s k,
)

-- ---- the messages that are meant

own_defined : (id : ℕ) (p : Pushed) (us : List Message) → with_definition id id p us ≡ us
own_defined id p [] = refl
own_defined id p (u ∷ us) =
    ap (λ (b : Bool). cond b [] (messages.Define (definition_of id p) ∷ [])
    ++ u ∷ with_definition id id p us) (nat_eq_equiv.refl id)
    ∙ ap (λ (vs : List Message). u ∷ vs) (own_defined id p us)

section_is : (last : ℕ) (t : TableTurn) (us : List Message)
    → with_definition last t.id t.pushed us ≡ turn_section last t us
section_is last t [] = refl
section_is last t (u ∷ us) =
    ap (λ (vs : List Message). define_unless last t.id t.pushed ++ u ∷ vs)
    (own_defined t.id t.pushed us)

pub last_is : (last : ℕ) (t : TableTurn) (us : List Message)
    → defined_after last t.id us ≡ turn_behind last t us
last_is last t [] = refl
last_is last t (u ∷ us) = refl

sections_are : (last : ℕ) (ts : List TableTurn) → update_messages last ts ≡ turn_sections last ts
unfolding update_messages
sections_are last [] = refl
sections_are last (t ∷ ts) =
    (λ i. section_is last t t.updates i ++ update_messages (last_is last t t.updates i) ts)
    ∙ ap (λ (vs : List Message). turn_section last t t.updates ++ vs)
    (sections_are (turn_behind last t t.updates) ts)

pub turn_read : (pushed : List Pushed) (sets : List (List (List ℕ))) (now : ℕ) (told : Told)
    → AreTables pushed → AreSets sets → IsKept told
    → reading_of (turn_text pushed sets now told)
    ≡ record { messages = turn_messages_of pushed sets now told; fault = None; rest = [] }
unfolding turn_text
turn_read pushed sets now told h s k =
    ap (λ (ms : List Message). reading_of (text_of (first_definitions pushed told ++ ms)))
    (sections_are (defined_before pushed told) (turns pushed sets now told))
    ∙ all_read (turn_messages_of pushed sets now told)
    (spoken_append (first_definitions pushed told)
    (turn_sections (defined_before pushed told) (turns pushed sets now told)) (by told.begun)
    (sections_spoken (defined_before pushed told) (turns pushed sets now told)
    (tables_fine (turn_at now told) sets told.tables 0 pushed (omega (arith, h.few)) h.each
    s.short k.short)))
  where
    by : (b : Bool) → AreSpoken (cond b [] (definitions 0 pushed))
    by true = tt
    by false = definitions_spoken 0 pushed (omega (arith, h.few)) h.each
