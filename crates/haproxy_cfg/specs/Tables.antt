-- The tables of lines, by their words.
use Rattle.std.specs.Prelude.{ℕ, ◌+◌, ◌-◌, ◌*◌, max, Bool, true, false, ◌&&◌, ◌||◌, not}
use Rattle.std.specs.Prelude.{if◌then◌else◌, ◌==◌, nat_le, nat_lt, List, [], ◌∷◌, length, fold}
use Rattle.std.specs.Prelude.{take, drop, slice_index, slice_index_or, codes, option_map, unwrap_or}
use Rattle.std.specs.Prelude.{Option, None, Some}
use Rattle.std.specs.Char.{is_ascii_alphanumeric}
use Rattle.std.specs.List.{flat_map, list_all}
use Rattle.std.specs.Option.{option_and_then, option_or}
use Rattle.std.specs.Result.{result_ok}
use Rattle.std.specs.Str.{bytes_eq}
use Rattle.agg_types.specs.Check.{len_fits}
use Rattle.agg_types.specs.Col.{all_cols, col_name, is_rate}
use Rattle.agg_types.specs.Kind.{kind_length, takes_length, with_length}
use Rattle.agg_types.specs.Name.{is_name}
use Rattle.agg_types.specs.declared.column.Col.{Col}
use Rattle.agg_types.specs.declared.config.KeyKind.{KeyKind}
use Rattle.agg_types.specs.declared.config.Shape.{Shape}
use Rattle.agg_types.specs.declared.kind.KeyLength.{KeyLength}
use Rattle.agg_types.specs.declared.kind.KeyLength.TheVariants.{Exactly, AtMost}
use Rattle.agg_types.specs.declared.limits.TheConstants.{PERIOD_END}
use Rattle.line_words.specs.Numbers.{number_of}
use Rattle.line_words.specs.Words.{parts}
use Rattle.agg_config.specs.Declarations.{type_of}
use Rattle.haproxy_cfg.specs.Arrays.{array_behind}
use Rattle.haproxy_cfg.specs.Values.{behind_word, ms_of, room_of}

-- the period in parentheses
abbrev pub inside : List ℕ → Option ℕ
inside rest =
    if nat_le 2 (length rest) && (slice_index rest 0 == 40)
    && (slice_index rest (length rest - 1) == 41)
    then ms_of (take (length rest - 2) (drop 1 rest)) else None

-- what stands behind a column's name: nothing at a count, its period at a rate
abbrev pub period_of : Bool → List ℕ → Option ℕ
period_of true rest = inside rest
period_of false rest = if length rest == 0 then Some 0 else None

-- the period of an item of a `store` list, if it names this column; 0 for a count
abbrev pub item_of : Col → List ℕ → Option ℕ
item_of col item =
    if bytes_eq (take (length (col_name col)) item) (col_name col)
    then period_of (is_rate col) (drop (length (col_name col)) item) else None

-- the period of the first of these items that names the column
abbrev pub in_list : Col → List (List ℕ) → Option ℕ
in_list col [] = None
in_list col (item ∷ items) = option_or (item_of col item) (in_list col items)

-- the same of all lists that stand behind a `store`
abbrev pub period_behind : Col → List (List ℕ) → Option ℕ
period_behind col [] = None
period_behind col (first ∷ rest) =
    if bytes_eq first (codes "store")
    then option_or (in_list col (parts 44 (slice_index_or rest 0 []))) (period_behind col rest)
    else period_behind col rest

-- the period of a column: its own, or else that of an array that has it as an element
abbrev pub stored_period : Col → List (List ℕ) → Option ℕ
stored_period col words = option_or (period_behind col words) (array_behind col words)

-- a column with its period, where it has one
abbrev pub with_period : Col → Option ℕ → List (Col × ℕ)
with_period col None = []
with_period col (Some period) = (col, period) ∷ []

-- a column with its period, where the words store it
abbrev pub put_col : Col → List (List ℕ) → List (Col × ℕ)
put_col col words = with_period col (stored_period col words)

-- those of these columns that the words store
abbrev pub cols_by : List Col → List (List ℕ) → List (Col × ℕ)
cols_by order words = flat_map (λ col. put_col col words) order

-- the stored columns, in ascending order
unfoldable pub cols_of : List (List ℕ) → List (Col × ℕ)
cols_of words = cols_by all_cols words

-- a length, or HAProxy's own where none is given
abbrev pub len_of : ℕ → List (List ℕ) → Option ℕ
len_of usual words =
    let word = behind_word (codes "len") words in
    if length word == 0 then Some usual else result_ok (number_of word)

-- HAProxy's own length of keys: 32 bytes, the last of which ends a string
abbrev pub usual_len : KeyLength → ℕ
usual_len (Exactly exact) = 32
usual_len (AtMost most) = 31

-- a kind, with the length of its keys where a declaration gives it one
abbrev pub with_len : KeyKind → List (List ℕ) → Option KeyKind
with_len kind words =
    if takes_length kind
    then option_map (with_length kind) (len_of (usual_len (kind_length kind)) words) else Some kind

-- the kind of keys
abbrev pub kind_of : List (List ℕ) → Option KeyKind
kind_of words =
    option_and_then (λ kind. with_len kind words) (type_of (behind_word (codes "type") words))

-- the longest period
abbrev pub longest : List (Col × ℕ) → ℕ
longest cols = fold (λ most col. max most col.1) 0 cols

-- whether a stored column is a rate
abbrev pub stores_rate : Col × ℕ → Bool
stores_rate col = is_rate col.0

-- whether columns are rates alone, one at least
abbrev pub are_rates : List (Col × ℕ) → Bool
are_rates cols = not (length cols == 0) && list_all stores_rate cols

-- a life that is shorter than this one, or any that may be where there is none
abbrev pub shorter : ℕ → Option ℕ → Option ℕ
shorter ms life = if nat_lt ms (unwrap_or life PERIOD_END) then Some ms else None

-- behind two periods a rate is 0: so long rows of rates alone are kept, where their own life
-- isn't shorter
abbrev pub keep_of : List (Col × ℕ) → Option ℕ → Option ℕ
keep_of cols life = if are_rates cols then shorter (2 * longest cols + 1) life else None

-- the life that a proxy gives the rows of a table
abbrev pub life_of : List (List ℕ) → Option ℕ
life_of words = ms_of (behind_word (codes "expire") words)

-- a table of these parts
abbrev pub shape : List ℕ → Option ℕ → List (Col × ℕ) → KeyKind → ℕ → Shape
shape name life cols kind size = record {
  name = name;
  kind = kind;
  size = size;
  keep = keep_of cols life;
  cols = cols;
}

-- the table of this name that the words describe
abbrev pub shape_of : List ℕ → List (List ℕ) → Option Shape
shape_of name words =
    option_and_then (λ kind. option_map (shape name (life_of words) (cols_of words) kind)
    (room_of (behind_word (codes "size") words))) (kind_of words)

-- a byte that a name in haproxy.cfg may have
abbrev pub is_plain : ℕ → Bool
is_plain byte = is_ascii_alphanumeric byte || (byte == 45) || (byte == 46) || (byte == 47)
    || (byte == 58) || (byte == 95)

-- a name without quotes, escapes and variables
abbrev pub plain_name : List ℕ → Bool
plain_name name = is_name name && list_all is_plain name

-- a table that the collector may have
abbrev pub fits : Shape → Bool
fits shape = plain_name shape.name && len_fits shape.kind
