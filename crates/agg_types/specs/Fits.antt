use Rattle.std.specs.Prelude.{ℕ, ◌^◌, Bool, true, false, ◌&&◌, not, if◌then◌else◌, ◌==◌, nat_le}
use Rattle.std.specs.Prelude.{nat_lt, List, [], ◌∷◌, length, Option, None, Some, slice_get}
use Rattle.std.specs.List.{list_all, list_any}
use Rattle.std.specs.Option.{option_map_or}
use Rattle.agg_types.specs.Col.{is_rate, is_wide, same_col}
use Rattle.agg_types.specs.Name.{is_name}
use Rattle.agg_types.specs.declared.column.Col.{Col}
use Rattle.agg_types.specs.declared.config.Config.{Config}
use Rattle.agg_types.specs.declared.limits.TheConstants.{LAST_MOMENT, MOST_CONDS}
use Rattle.agg_types.specs.declared.config.Cond.{Cond}
use Rattle.agg_types.specs.declared.config.Filter.{Filter}
use Rattle.agg_types.specs.declared.config.Shape.{Shape}
use Rattle.agg_types.specs.declared.config.KeyKind.{KeyKind}
use Rattle.agg_types.specs.declared.config.KeyKind.TheVariants.{Integer, Ip, Ipv6, Str, Binary}
use Rattle.agg_types.specs.declared.event.Cell.{Cell}
use Rattle.agg_types.specs.declared.event.Cell.TheVariants.{Count, Rate}
use Rattle.agg_types.specs.declared.event.Select.{Select}
use Rattle.agg_types.specs.declared.event.Select.TheVariants.{All, One, Conds}
use Rattle.agg_types.specs.declared.event.What.{What}
use Rattle.agg_types.specs.declared.event.What.TheVariants.{Sit, Open, Put, Clear, AddFilter}
use Rattle.agg_types.specs.declared.event.What.TheVariants.{DropFilter, Moment, Leave}

-- whether bytes may be a key of this kind: a string has at most its length, any other exactly
abbrev pub key_fits : KeyKind → List ℕ → Bool
key_fits Integer key = length key == 4
key_fits Ip key = length key == 4
key_fits Ipv6 key = length key == 16
key_fits (Str len) key = nat_le (length key) len
key_fits (Binary len) key = length key == len

-- whether a column may hold a cell: a rate a rate, a count a count of its width
abbrev pub cell_fits : Col → Cell → Bool
cell_fits col (Count count) = not (is_rate col)
    && nat_lt count (if is_wide col then 2 ^ 64 else 2 ^ 32)
cell_fits col (Rate elapsed cur prev) = is_rate col

-- one cell for each column, which the column may hold
abbrev pub cells_fit : List (Col × ℕ) → List Cell → Bool
cells_fit [] [] = true
cells_fit [] (cell ∷ cells) = false
cells_fit (col ∷ cols) [] = false
cells_fit (col ∷ cols) (cell ∷ cells) = cell_fits col.0 cell && cells_fit cols cells

-- whether a column is among those stored
abbrev pub stores : List (Col × ℕ) → Col → Bool
stores cols col = list_any (λ stored. same_col stored.0 col) cols

-- conditions, as many as there may be, each on a stored column
abbrev pub conds_fit : List (Col × ℕ) → List Cond → Bool
conds_fit cols conds = nat_le 1 (length conds) && nat_le (length conds) MOST_CONDS
    && list_all (λ cond. stores cols cond.col) conds

-- whether a table has such keys or columns
abbrev pub select_fits : Shape → Select → Bool
select_fits shape All = true
select_fits shape (One key) = key_fits shape.kind key
select_fits shape (Conds conds) = conds_fit shape.cols conds

-- whether a test holds of the table at a position, if there is one
abbrev pub at_table : List Shape → ℕ → (Shape → Bool) → Bool
at_table tables table test = option_map_or test (slice_get tables table) false

-- whether a key and cells may be a row of the table at a position
abbrev pub row_fits : List Shape → ℕ → List ℕ → List Cell → Bool
row_fits tables table key cells =
    at_table tables table (λ shape. key_fits shape.kind key && cells_fit shape.cols cells)

-- whether a life, if there is one, has 32 bits
abbrev pub life_fits : Option ℕ → Bool
life_fits None = true
life_fits (Some life) = nat_lt life (2 ^ 32)

-- whether a filter may be added: its name is one, and its conditions fit its table
abbrev pub filter_fits : List Shape → Filter → Bool
filter_fits tables filter = is_name filter.name
    && at_table tables filter.table (λ shape. conds_fit shape.cols filter.conds)

-- whether something may happen in this configuration
abbrev pub fits : Config → What → Bool
fits config Sit = true
fits config (Open peer) = nat_lt peer (length config.peers)
fits config (Put peer table key life cells) =
    nat_lt peer (length config.peers) && life_fits life && row_fits config.tables table key cells
fits config (Clear table sel) = at_table config.tables table (λ shape. select_fits shape sel)
fits config (AddFilter filter) = filter_fits config.tables filter
fits config (DropFilter name) = true
fits config (Moment moment) = nat_le moment LAST_MOMENT
fits config Leave = true
