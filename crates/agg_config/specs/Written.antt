-- A configuration written out: a line for each thing that it declares.
use Rattle.std.specs.Prelude.{ℕ, Bool, ◌&&◌, if◌then◌else◌, List, [], ◌∷◌, ◌++◌}
use Rattle.std.specs.Prelude.{length, map, slice_get, codes, Option, None, Some}
use Rattle.std.specs.Fmt.{decimal}
use Rattle.std.specs.List.{flat_map, join_with_byte, list_all}
use Rattle.std.specs.Option.{option_map_or}
use Rattle.agg_types.specs.Check.{ascends, hold_fits, is_within, keep_fits, len_fits}
use Rattle.agg_types.specs.Check.{period_fits}
use Rattle.agg_types.specs.Col.{col_id, col_name, is_rate}
use Rattle.agg_types.specs.Kind.{given_length, kind_name}
use Rattle.agg_types.specs.Name.{is_name}
use Rattle.agg_types.specs.declared.column.Col.{Col}
use Rattle.agg_types.specs.declared.config.Config.{Config}
use Rattle.agg_types.specs.declared.config.Filter as Filters
use Rattle.agg_types.specs.declared.config.Rank as Ranks
use Rattle.agg_types.specs.declared.config.KeyKind.{KeyKind}
use Rattle.agg_types.specs.declared.config.Shape.{Shape}
use Rattle.agg_types.specs.declared.limits.TheConstants.{LARGEST_SIZE, LONGEST_RANK, MOST_CONDS}
use Rattle.agg_types.specs.declared.limits.TheConstants.{MOST_ROWS}
use Rattle.line_words.specs.Conditions.{condition_words, have_bounds}
use Rattle.agg_config.specs.declared.declarations.Declaration.{Declaration}
use Rattle.agg_config.specs.declared.declarations.Declaration.TheVariants.{Me, Peer, Table, Filter}
use Rattle.agg_config.specs.declared.declarations.Declaration.TheVariants.{Rank, Push, Rows}
use Rattle.agg_config.specs.declared.declarations.Declaration.TheVariants.{Log, Ignore}

-- `len` and a length, where there is one
abbrev pub length_words : Option ℕ → List (List ℕ)
length_words None = []
length_words (Some len) = codes "len" ∷ decimal len ∷ []

-- the words for a kind of keys: its name, and the length that a declaration gives it
abbrev pub kind_words : KeyKind → List (List ℕ)
kind_words kind = kind_name kind ∷ length_words (given_length kind)

-- a stored column: a rate has its period in parentheses, a count none
abbrev pub column_text : Col × ℕ → List ℕ
column_text col =
    if is_rate col.0 then col_name col.0 ++ 40 ∷ (decimal col.1 ++ 41 ∷ []) else col_name col.0

-- `store` and the columns, with a comma between them, where there are any
abbrev pub store_words : List (Col × ℕ) → List (List ℕ)
store_words [] = []
store_words (first ∷ rest) =
    codes "store" ∷ join_with_byte 44 (map column_text (first ∷ rest)) ∷ []

-- `keep` and its ms, where rows have a longest life
abbrev pub keep_words : Option ℕ → List (List ℕ)
keep_words None = []
keep_words (Some keep) = codes "keep" ∷ decimal keep ∷ []

-- `hold` and its ms, where there is a hold
abbrev pub hold_words : Option ℕ → List (List ℕ)
hold_words None = []
hold_words (Some hold) = codes "hold" ∷ decimal hold ∷ []

-- the words of a declaration's line
abbrev pub words_of : Declaration → List (List ℕ)
words_of (Me name) = codes "name" ∷ name ∷ []
words_of (Peer name) = codes "peer" ∷ name ∷ []
words_of (Table shape) = codes "table" ∷ shape.name ∷ codes "type" ∷ (kind_words shape.kind
    ++ codes "size" ∷ decimal shape.size ∷ (keep_words shape.keep ++ store_words shape.cols))
words_of (Filter name table conds) = codes "filter" ∷ name ∷ table ∷ flat_map condition_words conds
words_of (Rank name table col n) = codes "rank" ∷ name ∷ table ∷ col_name col ∷ decimal n ∷ []
words_of (Push push) = codes "push" ∷ push.name ∷ hold_words push.hold
words_of (Rows n) = codes "rows" ∷ decimal n ∷ []
words_of (Log logged) = codes "log" ∷ logged.filter ∷ []
words_of (Ignore ignored) = codes "ignore" ∷ ignored.table ∷ []

-- the line: its words, with one space between them
abbrev pub declaration_line : Declaration → List ℕ
declaration_line declaration = join_with_byte 32 (words_of declaration)

-- the table that a line declares has a name, columns and numbers that it may have
abbrev pub is_valid_table : Shape → Bool
is_valid_table shape = is_name shape.name && len_fits shape.kind
    && is_within shape.size LARGEST_SIZE && keep_fits shape.keep
    && list_all period_fits shape.cols
    && ascends (map (λ col. col_id col.0) shape.cols)

-- whether a declaration's names and numbers are such as they may be
abbrev pub is_valid : Declaration → Bool
is_valid (Me name) = is_name name
is_valid (Peer name) = is_name name
is_valid (Table shape) = is_valid_table shape
is_valid (Filter name table conds) = is_name name && is_name table
    && is_within (length conds) MOST_CONDS && have_bounds conds
is_valid (Rank name table col n) = is_name name && is_name table && is_within n LONGEST_RANK
is_valid (Push push) = is_name push.name && hold_fits push.hold
is_valid (Rows n) = is_within n MOST_ROWS
is_valid (Log logged) = is_name logged.filter
is_valid (Ignore ignored) = is_name ignored.table

-- the name of the table at a position
abbrev pub table_name : List Shape → ℕ → List ℕ
table_name tables table = option_map_or (λ shape. shape.name) (slice_get tables table) []

-- a filter, by the name of its table
abbrev pub filter_of : List Shape → Filters.Filter → Declaration
filter_of tables filter = Filter filter.name (table_name tables filter.table) filter.conds

-- a ranked list, by the name of its table
abbrev pub rank_of : List Shape → Ranks.Rank → Declaration
rank_of tables rank = Rank rank.name (table_name tables rank.table) rank.col rank.n

-- a bound on all rows, where there is one
abbrev pub rows_declared : Option ℕ → List Declaration
rows_declared None = []
rows_declared (Some n) = Rows n ∷ []

-- what a configuration declares: its name, then peers, tables, filters, ranked lists, what it
-- pushes, its bound on all rows, what it logs, and what it ignores
abbrev pub declarations_of : Config → List Declaration
declarations_of config = Me config.me ∷ (map Peer config.peers ++ (map Table config.tables
    ++ (map (filter_of config.tables) config.filters
    ++ (map (rank_of config.tables) config.ranks
    ++ (map Push config.pushes ++ (rows_declared config.rows
    ++ (map Log config.logs ++ map Ignore config.ignored)))))))

-- the text of a configuration: a line for each, ended by LF
abbrev pub text_of : Config → List ℕ
text_of config = flat_map (λ declaration. declaration_line declaration ++ 10 ∷ [])
    (declarations_of config)
