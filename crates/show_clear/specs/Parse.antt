-- What a line asks for, word by word from the left.
use Rattle.std.specs.Prelude.{◌≡◌, ◌≢◌, ◌≤◌, ℕ, zero, suc, ◌==◌, Bool, false, not}
use Rattle.std.specs.Prelude.{if◌then◌else◌, nat_eq, nat_lt, List, [], ◌∷◌, codes, length, position}
use Rattle.std.specs.Prelude.{Option, Ok, Err, IfErr}
use Rattle.std.specs.List.{list_all, list_any, starts_with}
use Rattle.std.specs.Str.{bytes_eq}
use Rattle.agg_types.specs.Fits.{stores}
use Rattle.agg_types.specs.Name.{is_name}
use Rattle.agg_types.specs.declared.column.Col.{Col}
use Rattle.agg_types.specs.declared.config.Cond.{Cond}
use Rattle.agg_types.specs.declared.config.Filter.{Filter}
use Rattle.agg_types.specs.declared.config.KeyKind.{KeyKind}
use Rattle.agg_types.specs.declared.config.Shape.{Shape}
use Rattle.agg_types.specs.declared.event.Select.{Select}
use Rattle.agg_types.specs.declared.event.Select.TheVariants.{All, One, Conds}
use Rattle.agg_types.specs.declared.limits.TheConstants.{LONGEST_COMMAND_LINE}
use Rattle.agg_types.specs.declared.limits.TheConstants.{MOST_CONDS, MOST_FILTERS}
use Rattle.fleet_model.specs.Filters.{is_added}
use Rattle.fleet_model.specs.State.{State}
use Rattle.key_text.specs.Read.{key_of}
use Rattle.line_words.specs.Reader.{◌>>=◌, Left, comparison, data_column, end, keyword, left_of}
use Rattle.line_words.specs.Reader.{missing, next_is, word, wrong}
use Rattle.line_words.specs.Words.{words}
use Rattle.line_words.specs.declared.misread.Expected.TheVariants as expected
use Rattle.answer_text.specs.Tables.{shape_of}
pub use Rattle.show_clear.specs.Refused.{Read}
use Rattle.show_clear.specs.Refused.{Reading, fault_alone, or_refused, read_of, refused_at}
use Rattle.show_clear.specs.Refused.{refused_for, unplaced}
use Rattle.show_clear.specs.declared.command.Change.{Change}
use Rattle.show_clear.specs.declared.command.Change.TheVariants.{Clear, AddFilter, DropFilter}
use Rattle.show_clear.specs.declared.command.Command.{Command}
use Rattle.show_clear.specs.declared.command.Command.TheVariants.{Ask, Change as Changes}
use Rattle.show_clear.specs.declared.command.Question.{Question}
use Rattle.show_clear.specs.declared.command.Question.TheVariants.{Tables, Table, FilterKeys}
use Rattle.show_clear.specs.declared.command.Question.TheVariants.{Ranking, NextChange, OneKey}
use Rattle.show_clear.specs.declared.fault.CommandFault.TheVariants.{Empty, Unknown, NoTable}
use Rattle.show_clear.specs.declared.fault.CommandFault.TheVariants.{BadKey, TooMany, NoMemory}
use Rattle.show_clear.specs.declared.fault.CommandFault.TheVariants.{BadName, Exists, Full}
use Rattle.show_clear.specs.declared.refused.Refused.{Refused}

-- whether no word is left
abbrev pub is_at_end : Left → Bool
is_at_end left = nat_eq (length left.words) 0

-- ---- conditions

-- whether a word begins a condition
abbrev pub is_data : List ℕ → Bool
is_data word = starts_with nat_eq word (codes "data.")

-- the column that a condition's first word names, which the table has to store
unfoldable pub stored_column : List (Col × ℕ) → Left → Reading (Col × Left)
stored_column cols left = do
  col ← read_of (data_column left)
  if stores cols col.0 then Ok col else Err (refused_for (wrong left.number expected.Column))

-- a condition
unfoldable pub cond_of : List (Col × ℕ) → Left → Reading (Cond × Left)
cond_of cols left = do
  col ← stored_column cols left
  said ← read_of (comparison col.1)
  bound ← read_of said.0.1
  Ok (record { col = col.0; op = said.0.0; bound = bound }, said.1)

-- no word may follow the last condition that may be
abbrev pub no_more_at : ℕ → List (List ℕ) → Reading (List Cond)
no_more_at number [] = Ok []
no_more_at number (word ∷ ws) =
    Err (refused_at (if is_data word then TooMany else Unknown) (wrong number expected.End))

-- conditions up to the end of the line, at most so many
unfoldable pub conds_of : List (Col × ℕ) → ℕ → Left → Reading (List Cond)
conds_of cols zero left = no_more_at left.number left.words
conds_of cols (suc most) left = if is_at_end left then Ok [] else do
  first ← cond_of cols left
  others ← conds_of cols most first.1
  Ok (first.0 ∷ others)

-- one to four conditions
unfoldable pub some_conds : List (Col × ℕ) → Left → Reading (List Cond)
some_conds cols left =
    if is_at_end left then Err (refused_for (missing left.number expected.Condition))
    else conds_of cols MOST_CONDS left

-- ---- selectors

-- the last word says a key
unfoldable pub last_key : KeyKind → Left → Reading (List ℕ)
last_key kind left = do
  text ← read_of (word expected.Key left)
  key ← or_refused (refused_at BadKey (wrong left.number expected.Key)) (key_of kind text.0)
  none ← read_of (end text.1)
  Ok key

-- `key` and a key
unfoldable pub one_key : KeyKind → Left → Reading Select
one_key kind left = do
  label ← read_of (keyword (codes "key") left)
  key ← last_key kind label.1
  Ok (One key)

-- a selector: nothing for all keys, `key` and a key, or one to four conditions
unfoldable pub sel_of : Shape → Left → Reading Select
sel_of shape left =
    if is_at_end left then Ok All
    else if next_is (codes "key") left.words then one_key shape.kind left
    else (conds_of shape.cols MOST_CONDS left >>= λ conds. Ok (Conds conds))

-- ---- names

-- the word of this number is a name that nothing has
abbrev pub no_name : ℕ → Refused
no_name number = refused_at NoTable (wrong number expected.Name)

-- the position of a table
abbrev pub table_at : State → List ℕ → Option ℕ
table_at state name = position (λ shape. bytes_eq shape.name name) state.config.tables

-- the position of a standing filter
abbrev pub filter_at : State → List ℕ → Option ℕ
filter_at state name = position (λ filter. bytes_eq filter.name name) state.config.filters

-- the position of a ranked list
abbrev pub rank_at : State → List ℕ → Option ℕ
rank_at state name = position (λ rank. bytes_eq rank.name name) state.config.ranks

-- the next word names one of these
unfoldable pub named : (List ℕ → Option ℕ) → Left → Reading (ℕ × Left)
named found left = do
  name ← read_of (word expected.Name left)
  at ← or_refused (no_name left.number) (found name.0)
  Ok (at, name.1)

-- the last word names one of these
unfoldable pub last_named : (List ℕ → Option ℕ) → Left → Reading ℕ
last_named found left = do
  at ← named found left
  none ← read_of (end at.1)
  Ok at.0

-- a table and a selector
unfoldable pub table_and_sel : State → Left → Reading (ℕ × Select)
table_and_sel state left = do
  table ← named (table_at state) left
  sel ← sel_of (shape_of state table.0) table.1
  Ok (table.0, sel)

-- ---- questions

-- behind `show table`
unfoldable pub table_shown : State → Left → Reading Question
table_shown state left =
    if is_at_end left then Ok Tables
    else (table_and_sel state left >>= λ found. Ok (Table found.0 found.1))

-- behind `show key`
unfoldable pub key_shown : State → Left → Reading Question
key_shown state left = do
  table ← named (table_at state) left
  key ← last_key (shape_of state table.0).kind table.1
  Ok (OneKey table.0 key)

-- behind `show`, by the next word, which has this number
abbrev pub shown_by : State → ℕ → List ℕ → Left → Reading Question
shown_by state number kind left =
    if bytes_eq kind (codes "table") then table_shown state left
    else if bytes_eq kind (codes "filter")
    then (last_named (filter_at state) left >>= λ at. Ok (FilterKeys at))
    else if bytes_eq kind (codes "rank")
    then (last_named (rank_at state) left >>= λ at. Ok (Ranking at))
    else if bytes_eq kind (codes "next")
    then (last_named (filter_at state) left >>= λ at. Ok (NextChange at))
    else if bytes_eq kind (codes "key") then key_shown state left
    else Err (refused_for (wrong number expected.Keyword))

-- behind `show`
unfoldable pub shown : State → Left → Reading Question
shown state left = do
  kind ← read_of (word expected.Keyword left)
  shown_by state left.number kind.0 kind.1

-- ---- changes

-- behind `clear`
unfoldable pub cleared : State → Left → Reading Change
cleared state left = do
  kind ← read_of (keyword (codes "table") left)
  found ← table_and_sel state kind.1
  Ok (Clear found.0 found.1)

-- whether a filter of this name may be added; the name is the word of this number
abbrev pub new_name : State → ℕ → List ℕ → Reading (Unit {0})
new_name state number name =
    if not (is_name name) then Err (refused_at BadName (wrong number expected.Name))
    else if list_any (λ other. bytes_eq other.name name) state.config.filters
    then Err (refused_at Exists (wrong number expected.Name))
    else if nat_lt (length state.config.filters) MOST_FILTERS then Ok tt
    else Err (refused_at Full (wrong number expected.Name))

-- the filter of this name, from its table and conditions
unfoldable pub filter_on : State → List ℕ → Left → Reading Filter
filter_on state name left = do
  table ← named (table_at state) left
  conds ← some_conds (shape_of state table.0).cols table.1
  Ok (record { name = name; table = table.0; conds = conds })

-- behind `add`
unfoldable pub added : State → Left → Reading Change
added state left = do
  kind ← read_of (keyword (codes "filter") left)
  name ← read_of (word expected.Name kind.1)
  new ← new_name state kind.1.number name.0
  filter ← filter_on state name.0 name.1
  Ok (AddFilter filter)

-- the name of a filter that was added; one that was configured stands for good
abbrev pub added_named : State → ℕ → List ℕ → Reading (Unit {0})
added_named state number name =
    if is_added state.configured state.config.filters name then Ok tt
    else Err (no_name number)

-- behind `del`
unfoldable pub dropped : State → Left → Reading Change
dropped state left = do
  kind ← read_of (keyword (codes "filter") left)
  name ← read_of (word expected.Name kind.1)
  is ← added_named state kind.1.number name.0
  none ← read_of (end name.1)
  Ok (DropFilter name.0)

-- ---- commands

-- whether the first word is `del`
abbrev pub begins_del : List (List ℕ) → Bool
begins_del [] = false
begins_del (word ∷ ws) = bytes_eq word (codes "del")

-- the command that words say, by the first of them, which has this number
abbrev pub command_by : State → ℕ → List ℕ → Left → Reading Command
command_by state number kind left =
    if bytes_eq kind (codes "show") then (shown state left >>= λ question. Ok (Ask question))
    else if bytes_eq kind (codes "clear")
    then (cleared state left >>= λ change. Ok (Changes change))
    else if bytes_eq kind (codes "add") then (added state left >>= λ change. Ok (Changes change))
    else if bytes_eq kind (codes "del") then (dropped state left >>= λ change. Ok (Changes change))
    else Err (refused_for (wrong number expected.Keyword))

-- the command that words say
unfoldable pub command_in : State → Left → Reading Command
command_in state left =
    if is_at_end left then Err (refused_at Empty (missing left.number expected.Keyword)) else do
      kind ← read_of (word expected.Keyword left)
      command_by state left.number kind.0 kind.1

-- the same, with the fault alone where there is one
abbrev pub asked : State → List (List ℕ) → Read Command
asked state ws = fault_alone (command_in state (record { number = 1; words = ws }))

-- a line without the CRs at its end
abbrev pub without_returns : List ℕ → List ℕ
without_returns [] = []
without_returns (byte ∷ bytes) =
    if list_all (λ b. b == 13) (byte ∷ bytes) then [] else byte ∷ without_returns bytes

-- the command that a line says, which isn't too long. The CRs at its end are no part of it.
abbrev pub reading_of : State → List ℕ → Reading Command
reading_of state line =
    if nat_lt LONGEST_COMMAND_LINE (length (without_returns line))
    then Err (unplaced Unknown)
    else command_in state (left_of (without_returns line))

-- the same, with the fault alone where there is one
abbrev pub command_of : State → List ℕ → Read Command
command_of state line =
    if nat_lt LONGEST_COMMAND_LINE (length (without_returns line))
    then Err Unknown
    else asked state (words (without_returns line))

-- ---- what calls give

-- a result is what is to be read, or says that an allocation failed
abbrev pub Tells : {A : Type 0} → Read A → Read A → Type 0
Tells expected (Ok x) = expected ≡ Ok x
Tells expected (Err fault) = fault ≢ NoMemory → expected ≡ Err fault

-- the same, with the word of a fault
abbrev pub Says : {A : Type 0} → Reading A → Reading A → Type 0
Says expected (Ok x) = expected ≡ Ok x
Says expected (Err refused) = refused.fault ≢ NoMemory → expected ≡ Err refused

-- a call reads what is to be read, and leaves what that leaves; it takes no memory
abbrev pub Takes : {A : Type 0} → Reading (A × Left) → Reading A → Left → Type 0
Takes expected (Ok x) left = expected ≡ Ok (x, left)
Takes expected (Err refused) left = (expected ≡ Err refused) × (refused.fault ≢ NoMemory)

-- the same, where nothing is read behind it
abbrev pub Finds : {A : Type 0} → Reading A → Reading A → Type 0
Finds expected (Ok x) = expected ≡ Ok x
Finds expected (Err refused) = (expected ≡ Err refused) × (refused.fault ≢ NoMemory)

-- memory is taken only where so many words are left
abbrev pub TakesMemoryAt : {A : Type 0} → ℕ → List (List ℕ) → Reading A → Type 0
TakesMemoryAt least ws result =
    IfErr result (λ refused. refused.fault ≡ NoMemory → least ≤ length ws)
