-- The lines of a configuration, and words behind spaces.
use Rattle.std.specs.Prelude.{ℕ, List, [], ◌∷◌, ◌++◌, codes, Option, None, Some}
use Rattle.std.specs.Fmt.{decimal}
use Rattle.std.specs.List.{flat_map, join_with_byte}
use Rattle.agg_types.specs.declared.column.Col.{Col}
use Rattle.agg_types.specs.declared.config.Config.{Config}
use Rattle.agg_types.specs.declared.config.Filter.{Filter}
use Rattle.agg_types.specs.declared.config.Push.{Push}
use Rattle.agg_types.specs.declared.config.Rank.{Rank}
use Rattle.agg_types.specs.declared.config.Shape.{Shape}
use Rattle.line_words.specs.Conditions.{condition_words}
use Rattle.agg_config.specs.Written.{column_text, declaration_line, filter_of}
use Rattle.agg_config.specs.Written.{hold_words, keep_words, kind_words, rank_of, store_words}

-- words, each behind a space
abbrev pub spaced : List (List ℕ) → List ℕ
spaced words = flat_map (λ word. 32 ∷ word) words

-- a column behind a comma
abbrev pub column_behind : Col × ℕ → List ℕ
column_behind col = 44 ∷ column_text col

-- a line that declares a name
abbrev pub named_line : List ℕ → List ℕ → List ℕ
named_line label name = label ++ 32 ∷ (name ++ 10 ∷ [])

-- the line of a table
abbrev pub table_line : Shape → List ℕ
table_line shape = join_with_byte 32 (codes "table" ∷ shape.name ∷ codes "type" ∷
    (kind_words shape.kind ++ codes "size" ∷ decimal shape.size
    ∷ (keep_words shape.keep ++ store_words shape.cols))) ++ 10 ∷ []

-- the line of a standing filter of these tables
abbrev pub filter_line : List Shape → Filter → List ℕ
filter_line tables filter = declaration_line (filter_of tables filter) ++ 10 ∷ []

-- the line of a ranked list of these tables
abbrev pub rank_line : List Shape → Rank → List ℕ
rank_line tables rank = declaration_line (rank_of tables rank) ++ 10 ∷ []

-- the line of a pushed filter
abbrev pub push_line : Push → List ℕ
push_line push =
    join_with_byte 32 (codes "push" ∷ push.name ∷ hold_words push.hold) ++ 10 ∷ []

-- what stands behind the kind of a table's keys
abbrev pub table_end : Shape → List ℕ
table_end shape = 32 ∷ (codes "size" ++ 32 ∷ (decimal shape.size
    ++ (spaced (keep_words shape.keep) ++ (spaced (store_words shape.cols) ++ 10 ∷ []))))

-- the same, piece by piece
abbrev pub table_words : Shape → List ℕ
table_words shape = codes "table" ++ 32 ∷ (shape.name ++ 32 ∷ (codes "type"
    ++ (spaced (kind_words shape.kind) ++ table_end shape)))

abbrev pub stored_words : Col × ℕ → List (Col × ℕ) → List ℕ
stored_words first rest =
    32 ∷ (codes "store" ++ 32 ∷ (column_text first ++ flat_map column_behind rest))

abbrev pub filter_words : Filter → List ℕ → List ℕ
filter_words filter table = codes "filter" ++ (32 ∷ (filter.name ++ (32 ∷ (table
    ++ (spaced (flat_map condition_words filter.conds) ++ 10 ∷ [])))))

abbrev pub push_words : Push → List ℕ
push_words push =
    codes "push" ++ (32 ∷ (push.name ++ (spaced (hold_words push.hold) ++ 10 ∷ [])))

-- the lines of the standing filters
abbrev pub filter_lines : Config → List ℕ
filter_lines config = flat_map (filter_line config.tables) config.filters

-- the lines of the ranked lists
abbrev pub rank_lines : Config → List ℕ
rank_lines config = flat_map (rank_line config.tables) config.ranks

-- the lines of the pushed filters
abbrev pub push_lines : Config → List ℕ
push_lines config = flat_map push_line config.pushes

-- the line of a bound on all rows, where there is one
abbrev pub rows_line : Option ℕ → List ℕ
rows_line None = []
rows_line (Some rows) = codes "rows" ++ (32 ∷ (decimal rows ++ 10 ∷ []))

-- the lines of the filters whose keys the log tells
abbrev pub log_lines : Config → List ℕ
log_lines config = flat_map (λ logged. named_line (codes "log") logged.filter) config.logs

-- the lines of the tables that are ignored
abbrev pub ignored_lines : Config → List ℕ
ignored_lines config =
    flat_map (λ ignored. named_line (codes "ignore") ignored.table) config.ignored

-- what stands behind the ranked lists
abbrev pub last_lines : Config → List ℕ
last_lines config = push_lines config ++ (rows_line config.rows
    ++ (log_lines config ++ ignored_lines config))

-- the lines of a configuration, kind by kind
abbrev pub parts_text : Config → List ℕ
parts_text config = named_line (codes "name") config.me
    ++ (flat_map (named_line (codes "peer")) config.peers
    ++ (flat_map table_line config.tables
    ++ (filter_lines config ++ (rank_lines config ++ last_lines config))))
