-- The rows of one key, and what is said of a key by them alone.
use Rattle.std.specs.Prelude.{◌≡◌, ℕ, ◌-◌, Bool, true, false, ◌&&◌, if◌then◌else◌, ◌==◌, List}
use Rattle.std.specs.Prelude.{Option, map, filter, count_by, sum_by}
use Rattle.std.specs.BTreeMap.{is_at}
use Rattle.std.specs.Cmp.Lexicographic.{slice_cmp}
use Rattle.std.specs.List.{AllByRecursion, list_all, list_any}
use Rattle.std.specs.List.Sorted.{IsStrictlySortedBy}
use Rattle.std.specs.Map.{keys_of, lookup}
use Rattle.std.specs.Ordering.{nat_cmp}
use Rattle.agg_types.specs.Col.{all_cols}
use Rattle.agg_types.specs.Op.{op_holds}
use Rattle.agg_types.specs.RowKey.{row_key_cmp}
use Rattle.agg_types.specs.declared.column.Col.{Col}
use Rattle.agg_types.specs.declared.config.Cond.{Cond}
use Rattle.agg_types.specs.declared.config.Filter.{Filter}
use Rattle.agg_types.specs.declared.row_key.RowKey.{RowKey}
use Rattle.fleet_model.specs.Answers.{sum_up}
use Rattle.fleet_model.specs.Laws.{is_key_among}
use Rattle.fleet_model.specs.Moments.{is_live}
pub use Rattle.fleet_model.specs.Rows.{Rows, held_rows}
use Rattle.fleet_model.specs.State.{State}
use Rattle.fleet_model.specs.Values.{cols_of, column_worth, live_keys, same_key}
use Rattle.fleet_model.specs.declared.arrival.Arrival.{Arrival}
use Rattle.fleet_model.specs.declared.summed.Summed.{Summed}

-- rows ascend strictly by place
abbrev pub AreInOrder : Rows → Type 0
AreInOrder rows = IsStrictlySortedBy row_key_cmp (keys_of rows)

-- each row lives at t
abbrev pub AreLiveAt : ℕ → Rows → Type 0
AreLiveAt t rows = AllByRecursion (λ row. is_live t row.1 ≡ true) rows

-- the row at a place
abbrev pub row_at : Rows → RowKey → Option Arrival
row_at rows place = lookup (is_at (row_key_cmp place)) rows

-- whether a place is one of a table's key
abbrev pub is_at_key : ℕ → List ℕ → RowKey → Bool
is_at_key table key place = (place.table == table) && same_key key place.key

-- the rows of a key, by peer
abbrev pub key_rows : Rows → ℕ → List ℕ → Rows
key_rows rows table key = filter (λ row. is_at_key table key row.0) rows

-- one, where it is so
abbrev pub one_if : Bool → ℕ
one_if b = if b then 1 else 0

-- what a row of a key adds to its value of a column at t
abbrev pub row_worth : List (Col × ℕ) → Col → ℕ → Arrival → ℕ
row_worth cols col t row = if is_live t row
    then column_worth col (t - row.arrived) cols row.cells else 0

-- the value of a column that rows of one key sum up to at t
abbrev pub worth_of : List (Col × ℕ) → Rows → Col → ℕ → ℕ
worth_of cols rows col t = sum_by (λ row. row_worth cols col t row.1) rows

-- whether some of these rows lives at t
abbrev pub has_live : Rows → ℕ → Bool
has_live rows t = list_any (λ row. is_live t row.1) rows

-- whether rows of one key meet all conditions at t
abbrev pub meet_at : List (Col × ℕ) → Rows → List Cond → ℕ → Bool
meet_at cols rows conds t =
    list_all (λ cond. op_holds cond.op (worth_of cols rows cond.col t) cond.bound) conds

-- the summed row that rows of one key have, all of which live at t
abbrev pub sum_of : List (Col × ℕ) → Rows → ℕ → Option Summed
sum_of cols rows t = sum_up (map (λ col. worth_of cols rows col t) all_cols) t rows

-- whether a filter holds a key at t: some row of it lives then, and their values meet all
-- conditions
abbrev pub holds : State → Filter → List ℕ → ℕ → Bool
holds state filtering key t =
    let rows : Rows = key_rows state.rows filtering.table key in
    has_live rows t && meet_at (cols_of state.config.tables filtering.table) rows filtering.conds t

-- keys that are exactly those of a table that pass a test, each once and in order
pub record AreKeysOf (test : List ℕ → Bool) (keys : List (List ℕ)) : Type 0 where
  pub in_order : IsStrictlySortedBy (slice_cmp nat_cmp) keys
  pub exact : (key : List ℕ) → is_key_among key keys ≡ test key
