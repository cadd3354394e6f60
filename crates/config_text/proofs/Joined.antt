-- Words that are joined, and words behind spaces.
use Rattle.std.proofs.Common.{◌≡◌, ℕ, List, [], ◌∷◌, ◌++◌, map, codes, sym, ap, ◌∙◌, refl}
use Rattle.std.proofs.Common.{Option, None, Some}
use Rattle.std.proofs.Common.{append_assoc, append-nil}
use Rattle.std.proofs.lemmas.Grind.{flat_map-append}
use Rattle.std.proofs.lemmas.List.Folds.{flat_map-map}
use Rattle.std.specs.Fmt.{decimal}
use Rattle.std.specs.List.{flat_map, join_with_byte}
use Rattle.agg_types.specs.declared.column.Col.{Col}
use Rattle.agg_types.specs.declared.config.Config.{Config}
use Rattle.agg_types.specs.declared.config.Filter.{Filter}
use Rattle.agg_types.specs.declared.config.Push.{Push}
use Rattle.agg_types.specs.declared.config.Shape.{Shape}
use Rattle.line_words.specs.Conditions.{condition_words}
use Rattle.agg_config.specs.Written.{column_text, declaration_line, hold_words, keep_words}
use Rattle.agg_config.specs.Written.{kind_words, rows_declared, store_words, table_name, text_of}
use Rattle.config_text.specs.Spaced.{filter_line, filter_words, parts_text, push_line, push_words}
use Rattle.config_text.specs.Spaced.{rows_line, spaced, stored_words, table_end, table_line}
use Rattle.config_text.specs.Spaced.{table_words}

-- what is joined by a byte is the first, and each other behind that byte
joined : (c : ℕ) (first : List ℕ) (rest : List (List ℕ))
    → join_with_byte c (first ∷ rest) ≡ first ++ flat_map (λ piece. c ∷ piece) rest
joined c first [] = sym (append-nil first)
joined c first (next ∷ rest) = ap (λ xs. first ++ c ∷ xs) (joined c next rest)

pub spaced_both : (some more : List (List ℕ)) → spaced (some ++ more) ≡ spaced some ++ spaced more
spaced_both some more = flat_map-append (λ word. 32 ∷ word) some more

-- columns behind `store`
pub stored : (first : Col × ℕ) (rest : List (Col × ℕ)) → spaced (store_words (first ∷ rest))
    ≡ stored_words first rest
stored first rest =
    ap (λ xs. 32 ∷ (codes "store" ++ 32 ∷ xs)) (append-nil _
    ∙ (joined 44 (column_text first) (map column_text rest)
    ∙ ap (λ xs. column_text first ++ xs) (flat_map-map (λ piece. 44 ∷ piece) column_text rest)))

-- the line of a filter
pub filter_ended : (tables : List Shape) (filter : Filter) → filter_line tables filter
    ≡ filter_words filter (table_name tables filter.table)
filter_ended tables filter =
    ap (λ xs. xs ++ 10 ∷ []) (joined 32 (codes "filter")
    (filter.name ∷ table_name tables filter.table ∷ flat_map condition_words filter.conds))
    ∙ ap (λ xs. codes "filter" ++ 32 ∷ xs)
    (append_assoc filter.name (32 ∷ (table_name tables filter.table
    ++ spaced (flat_map condition_words filter.conds))) (10 ∷ [])
    ∙ ap (λ xs. filter.name ++ 32 ∷ xs) (append_assoc (table_name tables filter.table)
    (spaced (flat_map condition_words filter.conds)) (10 ∷ [])))

-- the line of a pushed filter
pub push_ended : (push : Push) → push_line push ≡ push_words push
push_ended push =
    ap (λ xs. xs ++ 10 ∷ []) (joined 32 (codes "push") (push.name ∷ hold_words push.hold))
    ∙ ap (λ xs. codes "push" ++ 32 ∷ xs)
    (append_assoc push.name (spaced (hold_words push.hold)) (10 ∷ []))

-- the line of a table, whatever the words for its kind of keys are
ended_with : (shape : Shape) (words : List (List ℕ)) → join_with_byte 32 (codes "table"
    ∷ shape.name ∷ codes "type" ∷ (words ++ codes "size" ∷ decimal shape.size
    ∷ (keep_words shape.keep ++ store_words shape.cols))) ++ 10 ∷ []
    ≡ codes "table" ++ 32 ∷ (shape.name ++ 32 ∷ (codes "type" ++ (spaced words ++ table_end shape)))
ended_with shape words =
    ap (λ xs. xs ++ 10 ∷ []) (joined 32 (codes "table") (shape.name ∷ codes "type" ∷
    (words ++ codes "size" ∷ decimal shape.size
    ∷ (keep_words shape.keep ++ store_words shape.cols))))
    ∙ simp (flat_map-append, append_assoc)

pub table_ended : (shape : Shape) → table_line shape ≡ table_words shape
table_ended shape = ended_with shape (kind_words shape.kind)

-- the line of a bound on all rows
rows_ended : (rows : Option ℕ)
    → flat_map (λ declaration. declaration_line declaration ++ 10 ∷ []) (rows_declared rows)
    ≡ rows_line rows
rows_ended None = refl
rows_ended (Some rows) =
    append-nil _ ∙ append_assoc (codes "rows") (32 ∷ decimal rows) (10 ∷ [])

-- the text of a configuration
pub whole : (config : Config) → text_of config ≡ parts_text config
whole config = simp (flat_map-append, flat_map-map, rows_ended)
