-- What a line declares, by its words. A number that is none is a fault only behind the last word.
use Rattle.std.specs.Prelude.{ℕ, ◌==◌, if◌then◌else◌, List, length, codes, Option, None, Some}
use Rattle.std.specs.Prelude.{nat_eq}
use Rattle.std.specs.Prelude.{Result, Ok, Err}
use Rattle.std.specs.Str.{bytes_eq}
use Rattle.agg_types.specs.Kind.{kind_named, takes_length, with_length}
use Rattle.agg_types.specs.declared.column.Col.{Col}
use Rattle.agg_types.specs.declared.config.KeyKind.{KeyKind}
use Rattle.agg_types.specs.declared.config.KeyKind.TheVariants.{Ip}
use Rattle.agg_types.specs.declared.limits.TheConstants.{MOST_CONDS}
use Rattle.line_words.specs.Reader.{◌>>=◌, Left, column, end, keyword, left_of, missing, next_is}
use Rattle.line_words.specs.Reader.{number, said_by, word, wrong}
use Rattle.line_words.specs.Words.{are_comment, words}
use Rattle.line_words.specs.declared.misread.Expected.TheVariants.{Name, Keyword, Condition}
use Rattle.line_words.specs.declared.misread.Misread.{Misread}
use Rattle.agg_config.specs.Columns.{in_order, known_period, stored}
use Rattle.agg_config.specs.Filters.{conditions, known_bound}
use Rattle.agg_config.specs.ReadResults.{read_each}
use Rattle.agg_config.specs.declared.declarations.Declaration.{Declaration}
use Rattle.agg_config.specs.declared.declarations.Declaration.TheVariants.{Me, Peer, Table, Filter}
use Rattle.agg_config.specs.declared.declarations.Declaration.TheVariants.{Rank, Push, Rows}
use Rattle.agg_config.specs.declared.declarations.Declaration.TheVariants.{Log, Ignore}

-- `name <name>`, behind its first word
unfoldable pub me_line : Left → Result Declaration Misread
me_line left = do
  name ← word Name left
  none ← end name.1
  Ok (Me name.0)

-- `peer <name>`
unfoldable pub peer_line : Left → Result Declaration Misread
peer_line left = do
  name ← word Name left
  none ← end name.1
  Ok (Peer name.0)

-- this word, and a number
unfoldable pub number_behind : List ℕ → Left → Result (Result ℕ Misread × Left) Misread
number_behind name left = do
  name ← keyword name left
  number name.1

-- the same of a number that may be left out
abbrev pub some_behind : List ℕ → Left → Result (Result (Option ℕ) Misread × Left) Misread
some_behind name left = do
  n ← number_behind name left
  Ok (n.0 >>= λ n. Ok (Some n), n.1)

-- a kind of keys with the length that stands behind it
abbrev pub kind_of_length : KeyKind → Left → Result (Result KeyKind Misread × Left) Misread
kind_of_length kind left = do
  len ← number_behind (codes "len") left
  Ok (len.0 >>= λ bytes. Ok (with_length kind bytes), len.1)

-- the same, where a declaration gives the kind a length
abbrev pub kind_behind : KeyKind → Left → Result (Result KeyKind Misread × Left) Misread
kind_behind kind left = if takes_length kind then kind_of_length kind left else Ok (Ok kind, left)

-- the kind that a type names; HAProxy from 3.2 on has `ipv4` for `ip`
abbrev pub type_of : List ℕ → Option KeyKind
type_of name = if bytes_eq name (codes "ipv4") then Some Ip else kind_named name

-- the type of a kind, and `len <n>` where a declaration gives the kind a length
unfoldable pub key_kind : Left → Result (Result KeyKind Misread × Left) Misread
key_kind left = do
  kind ← said_by Keyword type_of left
  kind_behind kind.0 kind.1

-- `keep <ms>`, or nothing
unfoldable pub keep : Left → Result (Result (Option ℕ) Misread × Left) Misread
keep left =
    if next_is (codes "keep") left.words
    then some_behind (codes "keep") left else Ok (Ok None, left)

-- a table of these words, where its numbers are known
unfoldable pub shape :
    List ℕ → Result KeyKind Misread → Result ℕ Misread → Result (Option ℕ) Misread
    → List (Col × Result ℕ Misread) → Result Declaration Misread
shape name kind size keep cols = do
  kind ← kind
  size ← size
  keep ← keep
  cols ← read_each known_period cols
  Ok (Table (record {
    name = name;
    kind = kind;
    size = size;
    keep = keep;
    cols = in_order cols;
  }))

-- `table <name> type <kind> size <n>`, then `keep <ms>` where rows have a longest life, and
-- `store <col>,<col>..` where it stores any
unfoldable pub table_line : Left → Result Declaration Misread
table_line left = do
  name ← word Name left
  type ← keyword (codes "type") name.1
  kind ← key_kind type.1
  size ← keyword (codes "size") kind.1
  size ← number size.1
  keep ← keep size.1
  cols ← stored keep.1
  shape name.0 kind.0 size.0 keep.0 cols

-- `filter <name> <table> data.<col> <op> <value>`, with one to four conditions
unfoldable pub filter_line : Left → Result Declaration Misread
filter_line left = do
  name ← word Name left
  table ← word Name name.1
  conds ← conditions MOST_CONDS table.1
  some ← (if length conds == 0 then Err (missing table.1.number Condition) else Ok conds)
  known ← read_each known_bound some
  Ok (Filter name.0 table.0 known)

-- `rank <name> <table> <col> <n>`
unfoldable pub rank_line : Left → Result Declaration Misread
rank_line left = do
  name ← word Name left
  table ← word Name name.1
  col ← column table.1
  n ← number col.1
  none ← end n.1
  n ← n.0
  Ok (Rank name.0 table.0 col.0 n)

-- `hold <ms>`, or nothing
unfoldable pub hold : Left → Result (Result (Option ℕ) Misread × Left) Misread
hold left =
    if nat_eq (length left.words) 0 then Ok (Ok None, left) else some_behind (codes "hold") left

-- `push <filter>`, and `hold <ms>` where there is one
unfoldable pub push_line : Left → Result Declaration Misread
push_line left = do
  name ← word Name left
  hold ← hold name.1
  none ← end hold.1
  hold ← hold.0
  Ok (Push (record { name = name.0; hold = hold }))

-- `rows <n>`
unfoldable pub rows_line : Left → Result Declaration Misread
rows_line left = do
  n ← number left
  none ← end n.1
  n ← n.0
  Ok (Rows n)

-- `log <filter>`
unfoldable pub log_line : Left → Result Declaration Misread
log_line left = do
  name ← word Name left
  none ← end name.1
  Ok (Log (record { filter = name.0 }))

-- `ignore <table>`
unfoldable pub ignore_line : Left → Result Declaration Misread
ignore_line left = do
  name ← word Name left
  none ← end name.1
  Ok (Ignore (record { table = name.0 }))

-- what the words of a line declare, by the first of them, which stands at this place
abbrev pub line_named : ℕ → List ℕ → Left → Result Declaration Misread
line_named place kind left =
    if bytes_eq kind (codes "name") then me_line left
    else if bytes_eq kind (codes "peer") then peer_line left
    else if bytes_eq kind (codes "table") then table_line left
    else if bytes_eq kind (codes "filter") then filter_line left
    else if bytes_eq kind (codes "rank") then rank_line left
    else if bytes_eq kind (codes "push") then push_line left
    else if bytes_eq kind (codes "rows") then rows_line left
    else if bytes_eq kind (codes "log") then log_line left
    else if bytes_eq kind (codes "ignore") then ignore_line left
    else Err (wrong place Keyword)

unfoldable pub line_declaration : Left → Result Declaration Misread
line_declaration left = do
  kind ← word Keyword left
  line_named left.number kind.0 kind.1

-- the same, or nothing where the line is blank or a comment
unfoldable pub declared : List ℕ → Result (Option Declaration) Misread
declared line =
    if are_comment (words line)
    then Ok None else (line_declaration (left_of line) >>= λ x. Ok (Some x))
