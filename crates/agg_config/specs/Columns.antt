-- The columns of a `store` list.
use Rattle.std.specs.Prelude.{ℕ, ◌-◌, ◌^◌, min, ◌&&◌, if◌then◌else◌, ◌==◌, nat_eq, nat_le, List, []}
use Rattle.std.specs.Prelude.{length, take, drop, filter, position, slice_index, codes}
use Rattle.std.specs.Prelude.{Option, None, Some, Result, Ok, Err}
use Rattle.std.specs.List.{flat_map}
use Rattle.agg_types.specs.Col.{all_cols, is_rate, same_col}
use Rattle.agg_types.specs.declared.column.Col.{Col}
use Rattle.line_words.specs.Reader.{◌>>=◌, Left, column_named, end, keyword, numeral, or_wrong}
use Rattle.line_words.specs.Reader.{word}
use Rattle.line_words.specs.Reader.{wrong}
use Rattle.line_words.specs.Words.{parts}
use Rattle.line_words.specs.declared.misread.Expected.TheVariants.{Columns}
use Rattle.line_words.specs.declared.misread.Misread.{Misread}
use Rattle.agg_config.specs.ReadResults.{read_each}

-- the column of a name
abbrev pub column_at : ℕ → List ℕ → Result Col Misread
column_at place name = or_wrong place Columns (column_named name)

-- a period in ms, where the word is a number; one above 32 bits counts as the greatest
abbrev pub period_of : ℕ → List ℕ → Result ℕ Misread
period_of place word = numeral place word >>= λ ms. Ok (min ms (2 ^ 32 - 1))

-- a count is written by its name alone, and has no period
abbrev pub count_item : ℕ → Col → Result (Col × Result ℕ Misread) Misread
count_item place col = if is_rate col then Err (wrong place Columns) else Ok (col, Ok 0)

-- a rate has its period in parentheses behind its name; what stands between them is to be a number
abbrev pub rate_item : ℕ → Col → List ℕ → Result (Col × Result ℕ Misread) Misread
rate_item place col text =
    if is_rate col && nat_le 2 (length text) && (slice_index text (length text - 1) == 41)
    then Ok (col, period_of place (take (length text - 2) (drop 1 text)))
    else Err (wrong place Columns)

-- an item of the list: what stands before its first parenthesis is the name
abbrev pub item_at : ℕ → List ℕ → Option ℕ → Result (Col × Result ℕ Misread) Misread
item_at place text None = do
  col ← column_at place text
  count_item place col
item_at place text (Some begin) = do
  col ← column_at place (take begin text)
  rate_item place col (drop begin text)

-- the item of a list that is the word of this number
unfoldable pub item : ℕ → List ℕ → Result (Col × Result ℕ Misread) Misread
item place text = item_at place text (position (λ byte. byte == 40) text)

-- `store` and a list, to the end of the line
abbrev pub list_stored : Left → Result (List (Col × Result ℕ Misread)) Misread
list_stored left = do
  store ← keyword (codes "store") left
  list ← word Columns store.1
  none ← end list.1
  read_each (item store.1.number) (parts 44 list.0)

-- nothing, or `store` and a list
abbrev pub stored : Left → Result (List (Col × Result ℕ Misread)) Misread
stored left = if nat_eq (length left.words) 0 then Ok [] else list_stored left

-- a column with its period, where that is a number
abbrev pub known_period : Col × Result ℕ Misread → Result (Col × ℕ) Misread
known_period col = do
  period ← col.1
  Ok (col.0, period)

-- those of one column
abbrev pub of_column : Col → List (Col × ℕ) → List (Col × ℕ)
of_column col cols = filter (λ stored. same_col stored.0 col) cols

-- the columns in the order of a list of them all
abbrev pub ordered_by : List Col → List (Col × ℕ) → List (Col × ℕ)
ordered_by order cols = flat_map (λ col. of_column col cols) order

-- the columns in ascending order
unfoldable pub in_order : List (Col × ℕ) → List (Col × ℕ)
in_order cols = ordered_by all_cols cols
