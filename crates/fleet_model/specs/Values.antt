-- Values of keys, from the rows in force, which stand in the order of their places.
use Rattle.std.specs.Prelude.{ℕ, ◌+◌, ◌-◌, Bool, true, ◌&&◌, if◌then◌else◌, ◌==◌, List, [], ◌∷◌}
use Rattle.std.specs.Prelude.{map, filter, sum_by, slice_get}
use Rattle.std.specs.List.{list_all, dedup}
use Rattle.std.specs.Option.{option_map_or}
use Rattle.std.specs.Cmp.Lexicographic.{slice_cmp}
use Rattle.std.specs.Ordering.{is_eq, nat_cmp}
use Rattle.period_rate.specs.Share.{rate}
use Rattle.agg_types.specs.Col.{same_col}
use Rattle.agg_types.specs.Op.{op_holds}
use Rattle.agg_types.specs.RowKey.{row_key_cmp}
use Rattle.agg_types.specs.declared.column.Col.{Col}
use Rattle.agg_types.specs.declared.config.Cond.{Cond}
use Rattle.agg_types.specs.declared.config.Shape.{Shape}
use Rattle.agg_types.specs.declared.event.Cell.{Cell}
use Rattle.agg_types.specs.declared.event.Cell.TheVariants.{Count, Rate}
use Rattle.agg_types.specs.declared.event.Select.{Select}
use Rattle.agg_types.specs.declared.event.Select.TheVariants.{All, One, Conds}
use Rattle.agg_types.specs.declared.row_key.RowKey.{RowKey}
use Rattle.fleet_model.specs.declared.arrival.Arrival.{Arrival}
use Rattle.fleet_model.specs.Moments.{is_live}

abbrev pub same_place : RowKey → RowKey → Bool
same_place p q = is_eq (row_key_cmp p q)

abbrev pub same_key : List ℕ → List ℕ → Bool
same_key a b = is_eq (slice_cmp nat_cmp a b)

-- the columns of a table
abbrev pub cols_of : List Shape → ℕ → List (Col × ℕ)
cols_of tables table = option_map_or (λ shape. shape.cols) (slice_get tables table) []

-- what a cell is worth so many ms after it arrived: a count itself, a rate what it has come down to
unfoldable pub cell_worth : ℕ → ℕ → Cell → ℕ
cell_worth period since (Count count) = count
cell_worth period since (Rate elapsed cur prev) = rate period prev cur (elapsed + since)

-- what the cell of a column is worth
abbrev pub column_worth : Col → ℕ → List (Col × ℕ) → List Cell → ℕ
column_worth col since [] cells = 0
column_worth col since (stored ∷ cols) [] = 0
column_worth col since (stored ∷ cols) (cell ∷ cells) =
    if same_col stored.0 col
    then cell_worth stored.1 since cell
    else column_worth col since cols cells

-- whether a row is one of a table's key, and lives
abbrev pub is_of : ℕ → List ℕ → ℕ → RowKey × Arrival → Bool
is_of table key t row = (row.0.table == table) && same_key key row.0.key && is_live t row.1

-- what a row adds to a key's value of a column: nothing, if it isn't of the key or has ended
unfoldable pub share : List (Col × ℕ) → ℕ → List ℕ → Col → ℕ → RowKey × Arrival → ℕ
share cols table key col t row =
    if is_of table key t row then column_worth col (t - row.1.arrived) cols row.1.cells else 0

-- a key's value of a column: the sum over the peers that hold a row of it, each rounded down by
-- itself
unfoldable pub value : List (Col × ℕ) → List (RowKey × Arrival) → ℕ → List ℕ → Col → ℕ → ℕ
value cols rows table key col t = sum_by (share cols table key col t) rows

-- whether all conditions hold of a key's values
unfoldable pub meets : List (Col × ℕ) → List (RowKey × Arrival) → ℕ → List ℕ → ℕ → List Cond → Bool
meets cols rows table key t conds =
    list_all (λ cond. op_holds cond.op (value cols rows table key cond.col t) cond.bound) conds

-- the keys of a table with a row that lives, in order, each once
unfoldable pub live_keys : List (RowKey × Arrival) → ℕ → ℕ → List (List ℕ)
live_keys rows table t =
    let lives_in : RowKey × Arrival → Bool = λ row. (row.0.table == table) && is_live t row.1 in
    dedup same_key (map (λ row. row.0.key) (filter lives_in rows))

-- whether a clear takes a key: all do, or one, or those whose values meet the conditions
abbrev pub selects : List (Col × ℕ) → List (RowKey × Arrival) → ℕ → ℕ → Select → List ℕ → Bool
selects cols rows table t All key = true
selects cols rows table t (One one) key = same_key one key
selects cols rows table t (Conds conds) key = meets cols rows table key t conds
