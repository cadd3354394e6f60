-- A text's configuration: what each line declares, behind the lines before it.
use Rattle.std.specs.Prelude.{◌≡◌, ◌≢◌, ◌⊎◌, ℕ, ◌+◌, ◌<◌, ◌≤◌, Bool, true, false, ◌&&◌, ◌||◌}
use Rattle.std.specs.Prelude.{not, if◌then◌else◌, List, [], ◌∷◌}
use Rattle.std.specs.Prelude.{◌++◌, length, take, map, fold, position, unwrap_or, slice_get}
use Rattle.std.specs.Prelude.{slice_index_or, codes, is_some, Option, None, Some}
use Rattle.std.specs.Prelude.{Result, Ok, Err}
use Rattle.std.specs.Fmt.{decimal}
use Rattle.std.specs.List.{list_any}
use Rattle.std.specs.Str.{bytes_eq}
use Rattle.agg_types.specs.Check.{all_faults, fault_if}
use Rattle.agg_types.specs.FaultName.{config_fault_name}
use Rattle.agg_types.specs.declared.check.ConfigFault.{ConfigFault}
use Rattle.agg_types.specs.declared.check.ConfigFault.TheVariants.{Duplicate}
use Rattle.agg_types.specs.declared.config.Config.{Config}
use Rattle.agg_types.specs.declared.config.Filter as Filters
use Rattle.agg_types.specs.declared.config.Rank as Ranks
use Rattle.agg_types.specs.declared.config.Shape.{Shape}
use Rattle.line_words.specs.declared.misread.Expected.{Expected}
use Rattle.line_words.specs.declared.misread.Expected.TheVariants as expected
use Rattle.line_words.specs.Words.{words}
use Rattle.line_words.specs.declared.misread.Misread.{Misread}
use Rattle.agg_config.specs.Declarations.{declared}
use Rattle.agg_config.specs.declared.causes.LineCause.{LineCause}
use Rattle.agg_config.specs.declared.causes.LineCause.TheVariants.{Syntax, Number, Check, NoMemory}
use Rattle.agg_config.specs.declared.causes.LineFault.{LineFault}
use Rattle.agg_config.specs.declared.causes.Unread.{Unread}
use Rattle.agg_config.specs.declared.causes.Unread.TheVariants as unread
use Rattle.agg_config.specs.declared.causes.Wrong.{Wrong}
use Rattle.agg_config.specs.declared.declarations.Declaration.{Declaration}
use Rattle.agg_config.specs.declared.declarations.Declaration.TheVariants.{Me, Peer, Table, Filter}
use Rattle.agg_config.specs.declared.declarations.Declaration.TheVariants.{Rank, Push, Rows}
use Rattle.agg_config.specs.declared.declarations.Declaration.TheVariants.{Log, Ignore}

-- the position of the table of this name; past the last where there is none
abbrev pub table_at : List Shape → List ℕ → ℕ
table_at tables name =
    unwrap_or (position (λ shape. bytes_eq shape.name name) tables) (length tables)

-- a configuration with one more declaration
abbrev pub declaring : Config → Declaration → Config
declaring config (Me name) = record config { me = name }
declaring config (Peer name) = record config { peers = config.peers ++ name ∷ [] }
declaring config (Table shape) = record config { tables = config.tables ++ shape ∷ [] }
declaring config (Filter name table conds) =
    let at = table_at config.tables table in
    let filter : Filters.Filter = record { name = name; table = at; conds = conds } in
    record config { filters = config.filters ++ filter ∷ [] }
declaring config (Rank name table col n) =
    let at = table_at config.tables table in
    let rank : Ranks.Rank = record { name = name; table = at; col = col; n = n } in
    record config { ranks = config.ranks ++ rank ∷ [] }
declaring config (Push push) = record config { pushes = config.pushes ++ push ∷ [] }
declaring config (Rows n) = record config { rows = Some n }
declaring config (Log logged) = record config { logs = config.logs ++ logged ∷ [] }
declaring config (Ignore ignored) = record config { ignored = config.ignored ++ ignored ∷ [] }

-- whether it is the collector's name
abbrev pub is_me : Declaration → Bool
is_me (Me name) = true
is_me (Peer name) = false
is_me (Table shape) = false
is_me (Filter name table conds) = false
is_me (Rank name table col n) = false
is_me (Push push) = false
is_me (Rows n) = false
is_me (Log logged) = false
is_me (Ignore ignored) = false

-- whether it bounds all rows where a line before it did
abbrev pub bounds_again : Config → Declaration → Bool
bounds_again config (Me name) = false
bounds_again config (Peer name) = false
bounds_again config (Table shape) = false
bounds_again config (Filter name table conds) = false
bounds_again config (Rank name table col n) = false
bounds_again config (Push push) = false
bounds_again config (Rows n) = is_some config.rows
bounds_again config (Log logged) = false
bounds_again config (Ignore ignored) = false

-- a cause's name
abbrev pub cause_name : LineCause → List ℕ
cause_name Syntax = codes "Syntax"
cause_name Number = codes "Number"
cause_name (Check fault) = config_fault_name fault
cause_name NoMemory = codes "NoMemory"

-- what is printed of a fault
abbrev pub fault_line : LineFault → List ℕ
fault_line fault =
    codes "config line " ++ decimal fault.line ++ codes ": " ++ cause_name fault.cause

-- a word that had to be a number and is none has a cause of its own
abbrev pub is_number : Expected → Bool
is_number expected.Name = false
is_number expected.Keyword = false
is_number expected.End = false
is_number expected.Number = true
is_number expected.Column = false
is_number expected.Columns = false
is_number expected.Condition = false
is_number expected.Operator = false
is_number expected.Key = false
is_number expected.Moment = false
is_number expected.Hexadecimal = false

abbrev pub cause_of : Misread → LineCause
cause_of misread = if not misread.is_missing && is_number misread.expected then Number else Syntax

-- a wrong or missing word of a line
abbrev pub wrong_word : Misread → Wrong
wrong_word misread = record { cause = cause_of misread; place = Some misread }

-- why the words of a line aren't read
abbrev pub wrong_of : Unread → Wrong
wrong_of (unread.Misread misread) = wrong_word misread
wrong_of unread.NoMemory = record { cause = NoMemory; place = None }

-- what a line declares goes against the lines before it
abbrev pub wrong_check : ConfigFault → Wrong
wrong_check fault = record { cause = Check fault; place = None }

-- what a line says: a declaration, or nothing, or what is wrong with its words
abbrev pub Meaning : Type 0
Meaning = Result (Option Declaration) Misread

abbrev pub meaning : List ℕ → Meaning
meaning line = declared line

-- a configuration behind a line, where it is read
abbrev pub behind : Config → Meaning → Config
behind config (Err cause) = config
behind config (Ok None) = config
behind config (Ok (Some declaration)) = declaring config declaration

-- whether a line gives the collector its name
abbrev pub names : Meaning → Bool
names (Err cause) = false
names (Ok None) = false
names (Ok (Some declaration)) = is_me declaration

-- before the first line: nothing, under the name `-` until it has one
abbrev pub opening : Config
opening = record {
  me = 45 ∷ [];
  peers = [];
  tables = [];
  filters = [];
  ranks = [];
  pushes = [];
  rows = None;
  logs = [];
  ignored = [];
}

-- what lines write
unfoldable pub written : List (List ℕ) → Config
written lines = fold (λ config line. behind config (meaning line)) opening lines

-- whether one of the lines gives the collector its name
unfoldable pub is_named : List (List ℕ) → Bool
is_named lines = list_any (λ line. names (meaning line)) lines

-- the faults of a line behind a configuration that has its name already or not
abbrev pub faults_behind : Config → Bool → Meaning → List Wrong
faults_behind config named (Err misread) = wrong_word misread ∷ []
faults_behind config named (Ok None) = []
faults_behind config named (Ok (Some declaration)) =
    let again = fault_if (bounds_again config declaration) Duplicate in
    let second = fault_if (named && is_me declaration) Duplicate in
    map wrong_check (again ++ all_faults (declaring config declaration) ++ second)

-- a line is read without a fault: what it leaves
pub record Passes (config : Config) (named : Bool) (line : Meaning) (after : Config)
    (named_after : Bool) : Type 0 where
  pub faultless : faults_behind config named line ≡ []
  pub whole : after ≡ behind config line
  pub told : named_after ≡ (named || names line)

-- it is the first of these faults, unless an allocation failed
abbrev pub FailsFirst : Wrong → List Wrong → Type 0
FailsFirst wrong faults = wrong.cause ≢ NoMemory → slice_get faults 0 ≡ Some wrong

-- a configuration became another, which has no fault, or stayed as it was, because the other has
abbrev pub Puts : Config → Config → Result (Unit {0}) Wrong → Config → Type 0
Puts config more (Ok done) after = (all_faults more ≡ []) × (after ≡ more)
Puts config more (Err wrong) after =
    FailsFirst wrong (map wrong_check (all_faults more)) × (after ≡ config)

-- the first fault of a line behind others, if it has one
unfoldable pub line_fault : List (List ℕ) → List ℕ → Option Wrong
line_fault before line =
    slice_get (faults_behind (written before) (is_named before) (meaning line)) 0

-- the first lines, this many, have no fault
abbrev pub AreSound : List (List ℕ) → ℕ → Type 0
AreSound lines n = (k : ℕ) → k < n → line_fault (take k lines) (slice_index_or lines k []) ≡ None

-- the lines write this configuration, and none has a fault
pub record Write (lines : List (List ℕ)) (config : Config) : Type 0 where
  pub sound : AreSound lines (length lines)
  pub named : is_named lines ≡ true
  pub whole : config ≡ written lines

-- this many lines have no fault, and the next one has this, its first
pub record FaultyLine (lines : List (List ℕ)) (before : ℕ) (wrong : Wrong) : Type 0 where
  pub sound : AreSound lines before
  pub there : before < length lines
  pub first : line_fault (take before lines) (slice_index_or lines before []) ≡ Some wrong

-- no line has a fault, but none gives the collector its name
pub record Nameless (lines : List (List ℕ)) (before : ℕ) : Type 0 where
  pub sound : AreSound lines (length lines)
  pub last : before ≡ length lines
  pub nameless : is_named lines ≡ false

-- whether a line declares something
abbrev pub declares : Meaning → Bool
declares (Err misread) = false
declares (Ok None) = false
declares (Ok (Some declaration)) = true

-- whether a line of these words has columns or conditions, which are kept as they are read
abbrev pub has_list : List (List ℕ) → Bool
has_list [] = false
has_list (kind ∷ rest) = bytes_eq kind (codes "table") || bytes_eq kind (codes "filter")

-- whether reading a line may take memory
abbrev pub takes_memory : List ℕ → Bool
takes_memory line = declares (meaning line) || has_list (words line)

-- an allocation may fail at the line behind this many: before the first, or for what the line says
abbrev pub MayLack : List (List ℕ) → ℕ → Type 0
MayLack lines before =
    (before ≡ 0) ⊎ (takes_memory (slice_index_or lines before []) ≡ true)

-- what is wrong at the line behind this many; where an allocation failed none of these has a fault,
-- and Syntax with no word is reported behind the last line only
abbrev pub FaultBehind : List (List ℕ) → ℕ → LineCause → Option Misread → Type 0
FaultBehind lines before NoMemory place =
    (before ≤ length lines) × AreSound lines before × MayLack lines before
FaultBehind lines before Syntax None = Nameless lines before
FaultBehind lines before Syntax (Some misread) =
    FaultyLine lines before (record { cause = Syntax; place = Some misread })
FaultBehind lines before Number place =
    FaultyLine lines before (record { cause = Number; place = place })
FaultBehind lines before (Check fault) place =
    FaultyLine lines before (record { cause = Check fault; place = place })

-- the first fault of the lines, which are counted from 1
abbrev pub IsFirstFault : List (List ℕ) → LineFault → Type 0
IsFirstFault lines fault = (before : ℕ) × (fault.line ≡ before + 1)
    × FaultBehind lines before fault.cause fault.place
