-- What is told of the faults of a configuration beside their names.
use Rattle.std.specs.Prelude.{ℕ, ◌-◌, Bool, false, ◌&&◌, ◌||◌, if◌then◌else◌, ◌==◌, List, [], ◌++◌}
use Rattle.std.specs.Prelude.{codes, min, Option, None, Some}
use Rattle.std.specs.Fmt.{decimal}
use Rattle.std.specs.List.{flat_map}
use Rattle.std.specs.Str.{bytes_eq}
use Rattle.agg_types.specs.Kind.{kind_named, takes_length}
use Rattle.agg_types.specs.declared.check.ConfigFault.{ConfigFault}
use Rattle.agg_types.specs.declared.check.ConfigFault.TheVariants.{Duplicate, TooMany, UnknownTable}
use Rattle.agg_types.specs.declared.check.ConfigFault.TheVariants.{UnknownColumn, BadPeriod}
use Rattle.agg_types.specs.declared.check.ConfigFault.TheVariants.{BadSize, BadName, UnknownFilter}
use Rattle.agg_types.specs.declared.config.KeyKind.{KeyKind}
use Rattle.agg_types.specs.declared.limits.TheConstants.{HOLD_END, LARGEST_SIZE, LONGEST_KEY}
use Rattle.agg_types.specs.declared.limits.TheConstants.{LONGEST_NAME, LONGEST_RANK, MOST_FILTERS}
use Rattle.agg_types.specs.declared.limits.TheConstants.{MOST_IGNORED, MOST_LOGS, MOST_PEERS}
use Rattle.agg_types.specs.declared.limits.TheConstants.{MOST_PUSHES, MOST_RANKS}
use Rattle.agg_types.specs.declared.limits.TheConstants.{MOST_ROWS, MOST_TABLES, PERIOD_END}
use Rattle.agg_types.specs.declared.limits.TheConstants.{SHORTEST_HOLD}
use Rattle.agg_config.specs.declared.causes.LineCause.{LineCause}
use Rattle.agg_config.specs.declared.causes.LineCause.TheVariants.{Syntax, Number, Check, NoMemory}
use Rattle.agg_config.specs.declared.causes.LineFault.{LineFault}
use Rattle.key_text.specs.Printed.{escaped}
use Rattle.line_words.specs.Numbered.{line_at, word_at}
use Rattle.line_words.specs.Words.{words}
use Rattle.line_words.specs.declared.misread.Expected.{Expected}
use Rattle.line_words.specs.declared.misread.Expected.TheVariants as expected
use Rattle.line_words.specs.declared.misread.Misread.{Misread}
use Rattle.config_text.specs.Named.{cause_names}
use Rattle.config_text.specs.Spelled.{number_hint}
use Rattle.config_text.specs.declared.named.TheConstants.{MOST_LINES}

-- whether a table's line has to give this kind of keys a length
abbrev pub has_length : Option KeyKind → Bool
has_length None = false
has_length (Some kind) = takes_length kind

-- whether these are the words of a table whose keys have a length: their kind is the fourth word
unfoldable pub wants_length : List (List ℕ) → Bool
wants_length words =
    if bytes_eq (word_at 1 words) (codes "table") then has_length (kind_named (word_at 4 words))
    else false

-- the word of a place in a table's line, whose keys may have a length
abbrev pub table_word : ℕ → Bool → List ℕ
table_word place has_len =
    if place == 3 then codes "type"
    else if place == 4 then codes "ip, ipv4, ipv6, integer, string or binary"
    else if (place == 5) && has_len then codes "len"
    else if (place == 5) || ((place == 7) && has_len) then codes "size"
    else if (place == 7) || ((place == 9) && has_len) then codes "keep or store"
    else codes "store"

-- the keyword of a place in a line of these words, where there is but one
abbrev pub keyword_text : ℕ → List (List ℕ) → List ℕ
keyword_text place words =
    if bytes_eq (word_at 1 words) (codes "table") then table_word place (wants_length words)
    else if bytes_eq (word_at 1 words) (codes "push") then codes "hold"
    else codes "a keyword"

-- what had to stand in a place, where a keyword would be this one
abbrev pub expected_text : Expected → List ℕ → List ℕ
expected_text expected.Name keyword = codes "a name"
expected_text expected.Keyword keyword = keyword
expected_text expected.End keyword = codes "the line's end"
expected_text expected.Number keyword = codes "a number of 1 to 20 digits"
expected_text expected.Column keyword = codes "a column"
expected_text expected.Columns keyword =
    codes "columns with commas between, a rate with its period in ms"
expected_text expected.Condition keyword = codes "data.<column>"
expected_text expected.Operator keyword = codes "eq, ne, le, ge, lt or gt"
expected_text expected.Key keyword = codes "a key"
expected_text expected.Moment keyword = codes "a moment in ms"
expected_text expected.Hexadecimal keyword = codes "hexadecimal digits, two for each byte"

-- what had to stand in a place of a line of these words
abbrev pub place_text : Misread → List (List ℕ) → List ℕ
place_text misread words =
    expected_text misread.expected (keyword_text misread.word words)

-- how a line is written that begins with this word
abbrev pub form_named : List ℕ → List ℕ
form_named kind =
    if bytes_eq kind (codes "name") then codes "name <name>"
    else if bytes_eq kind (codes "peer") then codes "peer <name>"
    else if bytes_eq kind (codes "table")
    then codes "table <name> type <type> size <rows> [keep <ms>] [store <column>,<rate>(<ms>)]"
    else if bytes_eq kind (codes "filter")
    then codes "filter <name> <table> data.<column> <operator> <number> .."
    else if bytes_eq kind (codes "rank") then codes "rank <name> <table> <column> <length>"
    else if bytes_eq kind (codes "push") then codes "push <filter> [hold <ms>]"
    else if bytes_eq kind (codes "rows") then codes "rows <n>"
    else if bytes_eq kind (codes "log") then codes "log <filter>"
    else if bytes_eq kind (codes "ignore") then codes "ignore <table>"
    else codes "name, peer, table, filter, rank, push, rows, log or ignore first"

-- how a line of these words is written
unfoldable pub form_of : List (List ℕ) → List ℕ
form_of words =
    if wants_length words
    then codes "table <name> type string|binary len <n> size <rows> [keep <ms>] "
    ++ codes "[store <column>,<rate>(<ms>)]"
    else form_named (word_at 1 words)

-- a word as it is told: its bytes but spaces and what doesn't print, in quotes
abbrev pub quoted : List ℕ → List ℕ
quoted word = codes " \"" ++ flat_map escaped word ++ codes "\""

-- a word, or that it is missing
abbrev pub found_text : Misread → List (List ℕ) → List ℕ
found_text misread words =
    if misread.is_missing then codes " is missing" else quoted (word_at misread.word words)

-- what had to stand there, and what a number with a unit is here
abbrev pub place_and_hint : Misread → List (List ℕ) → List ℕ
place_and_hint misread words =
    codes ": expected " ++ place_text misread words ++ number_hint misread words

-- the same, and how such a line is written
abbrev pub wanted_text : Misread → List (List ℕ) → List ℕ
wanted_text misread words = place_and_hint misread words ++ codes "; write: " ++ form_of words

-- the word that is wrong or missing, and what was wanted
abbrev pub misread_text : Misread → List (List ℕ) → List ℕ
misread_text misread words =
    codes ", word " ++ decimal misread.word ++ found_text misread words
    ++ wanted_text misread words

-- what goes against the lines before
abbrev pub check_text : ConfigFault → List ℕ
check_text Duplicate =
    codes "the name stands already, or a column or rows twice; "
    ++ codes "a pushed filter and an ignored table have no table's name"
check_text TooMany =
    codes "there may be " ++ decimal MOST_PEERS ++ codes " peers, " ++ decimal MOST_TABLES
    ++ codes " tables, " ++ decimal MOST_FILTERS ++ codes " filters, " ++ decimal MOST_RANKS
    ++ codes " ranked lists, " ++ decimal MOST_PUSHES ++ codes " pushes, " ++ decimal MOST_LOGS
    ++ codes " logs, " ++ decimal MOST_IGNORED ++ codes " ignored tables"
check_text UnknownTable = codes "no line before declares the table"
check_text UnknownColumn = codes "the table doesn't store the column"
check_text BadPeriod =
    codes "a period and a keep are 1 to " ++ decimal (PERIOD_END - 1) ++ codes " ms, a hold "
    ++ decimal SHORTEST_HOLD ++ codes " to " ++ decimal (HOLD_END - 1)
check_text BadSize =
    codes "a size is 1 to " ++ decimal LARGEST_SIZE ++ codes ", a len 1 to "
    ++ decimal LONGEST_KEY ++ codes ", a ranked list's length 1 to " ++ decimal LONGEST_RANK
    ++ codes ", rows 1 to " ++ decimal MOST_ROWS
check_text BadName =
    codes "a name has 1 to " ++ decimal LONGEST_NAME ++ codes " bytes, each of 33 to 126"
check_text UnknownFilter = codes "no line before declares the filter"

-- what is wrong where it is no word
abbrev pub cause_text : LineCause → List ℕ
cause_text Syntax = codes "no line gives the collector its name; write: name <name>"
cause_text Number = codes "expected a number of 1 to 20 digits"
cause_text (Check fault) = check_text fault
cause_text NoMemory = codes "out of memory"

-- what is wrong with a line of these words
abbrev pub reason_text : LineCause → Option Misread → List (List ℕ) → List ℕ
reason_text cause None words = codes ": " ++ cause_text cause
reason_text cause (Some misread) words = misread_text misread words

-- how many lines before a fault are looked through for names
abbrev pub lines_before : LineFault → ℕ
lines_before fault = min (fault.line - 1) MOST_LINES

-- what is wrong with a line of these words, with the names that there are where it has another
abbrev pub why_text : List (List ℕ) → LineFault → List (List ℕ) → List ℕ
why_text lines fault words =
    reason_text fault.cause fault.place words
    ++ cause_names fault.cause words (lines_before fault) lines

-- a fault of a line
abbrev pub line_explanation : List (List ℕ) → LineFault → List ℕ → List ℕ
line_explanation lines fault line = codes "config line " ++ decimal fault.line
    ++ why_text lines fault (words line) ++ codes "\n"

-- what is told of a fault of these lines
abbrev pub explanation : List (List ℕ) → LineFault → List ℕ
explanation lines fault = line_explanation lines fault (line_at fault.line lines)

-- a line for each fault
abbrev pub explanations : List (List ℕ) → List LineFault → List ℕ
explanations lines faults = flat_map (explanation lines) faults
