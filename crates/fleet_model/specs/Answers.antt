-- What is answered of a state.
use Rattle.std.specs.Prelude.{ℕ, ◌+◌, ◌-◌, List, [], ◌∷◌, length, Option, None, Some, map, filter}
use Rattle.std.specs.Prelude.{fold, max, slice_index_or}
use Rattle.std.specs.Option.{option_map}
use Rattle.agg_types.specs.Col.{all_cols}
use Rattle.agg_types.specs.declared.column.Col.{Col}
use Rattle.agg_types.specs.declared.config.Filter.{Filter}
use Rattle.agg_types.specs.declared.row_key.RowKey.{RowKey}
use Rattle.fleet_model.specs.declared.arrival.Arrival.{Arrival}
use Rattle.fleet_model.specs.declared.summed.Summed.{Summed}
use Rattle.fleet_model.specs.State.{State}
use Rattle.fleet_model.specs.Values.{cols_of, is_of, live_keys, meets, value}

-- the longer of two lives, of which none never ends
abbrev pub longer : Option ℕ → Option ℕ → Option ℕ
longer None other = None
longer (Some life) None = None
longer (Some life) (Some other) = Some (max life other)

abbrev pub left_after : Option ℕ → ℕ → ℕ → Option ℕ
left_after None arrived t = None
left_after (Some life) arrived t = Some (life - (t - arrived))

-- the ms that a row has left, or none where it never ends
abbrev pub left_of : ℕ → Arrival → Option ℕ
left_of t row = left_after row.life row.arrived t

-- the rows of a key
unfoldable pub rows_of : State → ℕ → List ℕ → List (RowKey × Arrival)
rows_of state table key = filter (is_of table key state.moment) state.rows

-- how many rows there are, and the longest life left of them, if there are any
abbrev pub tally : ℕ → List (RowKey × Arrival) → Option (ℕ × Option ℕ)
tally t [] = None
tally t (row ∷ rows) =
    Some (length rows + 1, fold (λ most r. longer most (left_of t r.1)) (left_of t row.1) rows)

-- the rows of a key, if there are any, and the values that they sum up to
abbrev pub sum_up : List ℕ → ℕ → List (RowKey × Arrival) → Option Summed
sum_up values t rows =
    option_map (λ found. record { peers = found.0; left = found.1; values = values }) (tally t rows)

-- a key's value of a column at t, if only the clock goes on until then
abbrev pub key_value : State → ℕ → List ℕ → Col → ℕ → ℕ
key_value state table key col t =
    value (cols_of state.config.tables table) state.rows table key col t

-- the summed row of a key, if some peer holds a row of it
unfoldable pub summed : State → ℕ → List ℕ → Option Summed
summed state table key =
    sum_up (map (λ col. key_value state table key col state.moment) all_cols) state.moment
    (rows_of state table key)

-- the keys of a table with a row, in order
unfoldable pub keys_of : State → ℕ → List (List ℕ)
keys_of state table = live_keys state.rows table state.moment

-- the keys of a table with a row, each with its summed row, in order
unfoldable pub listed : State → ℕ → List (List ℕ × Option Summed)
listed state table = map (λ key. (key, summed state table key)) (keys_of state table)

-- the keys that a filter holds at t: those with a row that lives then and for which all conditions
-- hold
unfoldable pub set_at : State → Filter → ℕ → List (List ℕ)
set_at state filtering t =
    let cols : List (Col × ℕ) = cols_of state.config.tables filtering.table in
    filter (λ key. meets cols state.rows filtering.table key t filtering.conds)
    (live_keys state.rows filtering.table t)

abbrev pub no_filter : Filter
no_filter = record { name = []; table = 0; conds = [] }

-- the standing filter at a position
abbrev pub filter_of : State → ℕ → Filter
filter_of state position = slice_index_or state.config.filters position no_filter
