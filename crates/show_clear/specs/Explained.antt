-- What people are told of a refused line beside its fault: the word that is wrong, and what was
-- expected.
use Rattle.std.specs.Prelude.{ℕ, Bool, ◌&&◌, ◌||◌, if◌then◌else◌, nat_le, nat_lt}
use Rattle.std.specs.Prelude.{List, [], ◌∷◌, ◌++◌, codes, length, map, take}
use Rattle.std.specs.Prelude.{position, Option, None, Some}
use Rattle.std.specs.Fmt.{decimal}
use Rattle.std.specs.Str.{bytes_eq}
use Rattle.agg_types.specs.Col.{col_name}
use Rattle.agg_types.specs.Kind.{kind_name}
use Rattle.agg_types.specs.declared.config.Shape.{Shape}
use Rattle.agg_types.specs.declared.limits.TheConstants.{LONGEST_COMMAND_LINE, LONGEST_NAME}
use Rattle.agg_types.specs.declared.limits.TheConstants.{MOST_CONDS, MOST_FILTERS}
use Rattle.fleet_model.specs.State.{State}
use Rattle.line_words.specs.Numbered.{word_at}
use Rattle.line_words.specs.Words.{words}
use Rattle.line_words.specs.declared.misread.Misread.{Misread}
use Rattle.answer_text.specs.Tables.{shape_of}
use Rattle.show_clear.specs.Parse.{without_returns}
use Rattle.show_clear.specs.Refusal.{fault_name, fault_number}
use Rattle.show_clear.specs.declared.fault.CommandFault.{CommandFault}
use Rattle.show_clear.specs.declared.fault.CommandFault.TheVariants.{Empty, Unknown, NoTable}
use Rattle.show_clear.specs.declared.fault.CommandFault.TheVariants.{BadColumn, BadOperator}
use Rattle.show_clear.specs.declared.fault.CommandFault.TheVariants.{BadValue, BadKey, TooMany}
use Rattle.show_clear.specs.declared.fault.CommandFault.TheVariants.{NoMemory, BadName, Exists}
use Rattle.show_clear.specs.declared.fault.CommandFault.TheVariants.{Full}
use Rattle.show_clear.specs.declared.quoting.TheConstants.{MOST_QUOTED}
use Rattle.show_clear.specs.declared.refused.Refused.{Refused}

-- ---- pieces

-- a byte as it is told: itself where it prints, else `?`
abbrev pub printed : ℕ → ℕ
printed byte = if nat_le 32 byte && nat_le byte 126 then byte else 63

-- the first bytes of a word as they are told, in quotes
abbrev pub quoted : List ℕ → List ℕ
quoted word = codes "\"" ++ map printed (take MOST_QUOTED word) ++ codes "\""

-- names, each behind a comma but the first, which stands behind this
abbrev pub listed : List ℕ → List (List ℕ) → List ℕ
listed before [] = []
listed before (name ∷ names) = before ++ name ++ listed (codes ", ") names

-- names behind a label, or that there is none
abbrev pub names_text : List ℕ → List (List ℕ) → List ℕ
names_text label [] = codes "; there is none"
names_text label (name ∷ names) = label ++ listed [] (name ∷ names)

-- ---- where words stand

-- whether a filter is to be added: its name stands before that of its table
abbrev pub adds : List (List ℕ) → Bool
adds words = bytes_eq (word_at 1 words) (codes "add")

-- the word that names the table
abbrev pub table_word : List (List ℕ) → List ℕ
table_word words = if adds words then word_at 4 words else word_at 3 words

-- a table at a position, if there is one
abbrev pub shape_at : State → Option ℕ → Option Shape
shape_at state None = None
shape_at state (Some table) = Some (shape_of state table)

-- the table that the words name, if it exists
abbrev pub shape_in : State → List (List ℕ) → Option Shape
shape_in state words =
    shape_at state
    (position (λ shape. bytes_eq shape.name (table_word words)) state.config.tables)

-- the word that a line is refused for; empty where there is none
abbrev pub word_refused : Option Misread → List (List ℕ) → List ℕ
word_refused None words = []
word_refused (Some at) words = word_at at.word words

-- ---- what was expected

-- how the commands are written that begin with this word, by their second one
abbrev pub status_form : List ℕ → List ℕ
status_form second =
    if bytes_eq second (codes "info") then codes "show info"
    else if bytes_eq second (codes "peers") then codes "show peers [<peer>]"
    else if bytes_eq second (codes "config") then codes "show config"
    else if bytes_eq second (codes "filters") then codes "show filters"
    else if bytes_eq second (codes "ranks") then codes "show ranks"
    else []

abbrev pub show_form : List ℕ → List ℕ
show_form second =
    if bytes_eq second (codes "table")
    then codes "show table [<table> [key <key> | data.<column> <operator> <value> ..]]"
    else if bytes_eq second (codes "filter") then codes "show filter <filter>"
    else if bytes_eq second (codes "next") then codes "show next <filter>"
    else if bytes_eq second (codes "rank") then codes "show rank <rank>"
    else if bytes_eq second (codes "key") then codes "show key <table> <key>"
    else status_form second

abbrev pub clear_form : List ℕ → List ℕ
clear_form second =
    if bytes_eq second (codes "table")
    then codes "clear table <table> [key <key> | data.<column> <operator> <value> ..]" else []

abbrev pub add_form : List ℕ → List ℕ
add_form second =
    if bytes_eq second (codes "filter")
    then codes "add filter <filter> <table> data.<column> <operator> <value> .." else []

abbrev pub del_form : List ℕ → List ℕ
del_form second =
    if bytes_eq second (codes "filter") then codes "del filter <filter>" else []

-- a command of one word
abbrev pub lone_form : List ℕ → List ℕ
lone_form first =
    if bytes_eq first (codes "help") then codes "help"
    else if bytes_eq first (codes "quit") then codes "quit"
    else []

-- how the command of these two words is written; empty where there is none
abbrev pub form_of : List ℕ → List ℕ → List ℕ
form_of first second =
    if bytes_eq first (codes "show") then show_form second
    else if bytes_eq first (codes "clear") then clear_form second
    else if bytes_eq first (codes "add") then add_form second
    else if bytes_eq first (codes "del") then del_form second
    else lone_form first

-- whether further words tell which command it is
abbrev pub is_begun : List ℕ → Bool
is_begun first =
    bytes_eq first (codes "show") || bytes_eq first (codes "clear")
    || bytes_eq first (codes "add") || bytes_eq first (codes "del")

-- no command begins with this word
abbrev pub unknown_text : List ℕ → List ℕ
unknown_text first = quoted first ++ codes " is no command; see help"

-- a further word has to tell which command it is
abbrev pub missing_text : List ℕ → List ℕ
missing_text first = codes "a word is missing behind " ++ quoted first ++ codes "; see help"

-- one tells none
abbrev pub stranger_text : List ℕ → List ℕ → List ℕ
stranger_text first second =
    quoted second ++ codes " is no word behind " ++ quoted first ++ codes "; see help"

abbrev pub no_word : List ℕ → List ℕ → List ℕ
no_word first [] = missing_text first
no_word first (byte ∷ bytes) = stranger_text first (byte ∷ bytes)

-- no command has these two words
abbrev pub no_command : List ℕ → List ℕ → List ℕ
no_command first second = if is_begun first then no_word first second else unknown_text first

-- a form that was missed
abbrev pub form_text : List ℕ → List ℕ → List ℕ → List ℕ
form_text first second [] = no_command first second
form_text first second (byte ∷ form) = codes "the form is: " ++ byte ∷ form

abbrev pub no_table : State → List ℕ → List ℕ
no_table state name =
    codes "no table " ++ quoted name ++ codes " is configured"
    ++ names_text (codes "; tables are: ") (map (λ shape. shape.name) state.config.tables)

abbrev pub no_filter_named : State → List ℕ → List ℕ
no_filter_named state name =
    codes "no filter " ++ quoted name ++ codes " exists"
    ++ names_text (codes "; filters are: ") (map (λ filter. filter.name) state.config.filters)

abbrev pub no_rank_named : State → List ℕ → List ℕ
no_rank_named state name =
    codes "no ranked list " ++ quoted name ++ codes " is configured"
    ++ names_text (codes "; ranked lists are: ") (map (λ rank. rank.name) state.config.ranks)

abbrev pub no_peer_named : List ℕ → List ℕ
no_peer_named name = codes "no peer " ++ quoted name ++ codes " is configured; see show peers"

abbrev pub not_added : List ℕ → List ℕ
not_added name =
    codes "no filter " ++ quoted name ++ codes " was added; those of the configuration stay"

-- the name that nothing has, by what is to be shown or cleared
abbrev pub not_shown : State → List ℕ → List ℕ → List ℕ
not_shown state what name =
    if bytes_eq what (codes "table") || bytes_eq what (codes "key") then no_table state name
    else if bytes_eq what (codes "rank") then no_rank_named state name
    else if bytes_eq what (codes "peers") then no_peer_named name
    else no_filter_named state name

-- the name that nothing has, and the names that there are
abbrev pub no_name : State → List (List ℕ) → List ℕ → List ℕ
no_name state words name =
    if bytes_eq (word_at 1 words) (codes "add") then no_table state name
    else if bytes_eq (word_at 1 words) (codes "del") then not_added name
    else not_shown state (word_at 2 words) name

-- the names of the columns that a table stores
abbrev pub stored_text : Option Shape → List ℕ
stored_text None = []
stored_text (Some shape) = listed [] (map (λ col. col_name col.0) shape.cols)

abbrev pub kind_text : Option Shape → List ℕ
kind_text None = []
kind_text (Some shape) = kind_name shape.kind

abbrev pub too_many_text : List ℕ
too_many_text = codes "there may be " ++ decimal MOST_CONDS ++ codes " conditions"

abbrev pub bad_name_text : List ℕ → List ℕ
bad_name_text name =
    quoted name ++ codes " can't name a filter: a name has 1 to " ++ decimal LONGEST_NAME
    ++ codes " bytes, each of 33 to 126"

abbrev pub exists_text : List ℕ → List ℕ
exists_text name = codes "a filter " ++ quoted name ++ codes " exists already"

abbrev pub full_text : List ℕ
full_text =
    codes "there may be " ++ decimal MOST_FILTERS
    ++ codes " filters; del filter <filter> takes away one that was added"

-- ---- the explanation

-- what is told of the words of a line and of the one that it is refused for
abbrev pub words_text : State → List (List ℕ) → List ℕ → CommandFault → List ℕ
words_text state words wrong Empty = codes "the line has no word; see help"
words_text state words wrong Unknown =
    form_text (word_at 1 words) (word_at 2 words) (form_of (word_at 1 words) (word_at 2 words))
words_text state words wrong NoTable = no_name state words wrong
words_text state words wrong BadColumn =
    quoted wrong ++ codes " names no column that the table stores; it stores: "
    ++ stored_text (shape_in state words)
words_text state words wrong BadOperator =
    quoted wrong ++ codes " stands where one of eq, ne, lt, le, gt, ge is expected"
words_text state words wrong BadValue =
    quoted wrong
    ++ codes " stands where 1 to 20 digits are expected, up to 18446744073709551615"
words_text state words wrong BadKey =
    quoted wrong ++ codes " is no key of type " ++ kind_text (shape_in state words)
words_text state words wrong TooMany = too_many_text
words_text state words wrong NoMemory = codes "out of memory"
words_text state words wrong BadName = bad_name_text wrong
words_text state words wrong Exists = exists_text wrong
words_text state words wrong Full = full_text

-- the same, by what the line is refused for
abbrev pub refused_text : State → Refused → List (List ℕ) → List ℕ
refused_text state refused words =
    words_text state words (word_refused refused.at words) refused.fault

-- a line that is too long
abbrev pub long_text : List ℕ
long_text = codes "the line has more than " ++ decimal LONGEST_COMMAND_LINE ++ codes " bytes"

-- what is told of a refused line
abbrev pub explanation : State → List ℕ → Refused → List ℕ
explanation state line refused =
    if nat_lt LONGEST_COMMAND_LINE (length (without_returns line))
    then long_text else refused_text state refused (words (without_returns line))

-- a refusal's line with that behind it
abbrev pub explained_refusal : State → List ℕ → Refused → List ℕ
explained_refusal state line refused =
    codes "refused " ++ decimal (fault_number refused.fault) ++ codes " "
    ++ fault_name refused.fault ++ codes ": " ++ explanation state line refused ++ codes "\n"
