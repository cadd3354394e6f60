-- Rows as they are shown: in order, as one arrives, and without those of a table.
use Rattle.std.proofs.Common.{◌≡◌, ℕ, ◌+◌, ◌-◌, ◌<◌, ◌≤◌, Bool, true, false, cond, ◌==◌, not, List}
use Rattle.std.proofs.Common.{[], ◌∷◌, Option, refl, sym, ap, ◌∙◌, subst, arith}
use Rattle.std.specs.Prelude.{filter, sum_by}
use Rattle.std.proofs.lemmas.Bool.Decides.{nat_tests}
use Rattle.agg_types.specs.declared.column.Col.{Col}
use Rattle.agg_types.specs.declared.row_key.RowKey.{RowKey}
use Rattle.std.specs.BTreeMap.{insert_entry, is_at}
use Rattle.std.specs.List.Sorted.{IsStrictlySortedBy}
use Rattle.std.specs.Map.{keys_of, remove_entry}
use Rattle.agg_types.specs.RowKey.{row_key_cmp}
use Rattle.agg_types.specs.declared.event.Cell.{Cell}
use Rattle.fleet_model.specs.Normalized.{normalized_cells}
use Rattle.fleet_model.specs.Keys.{AreInOrder, Rows, key_rows, worth_of}
use Rattle.fleet_model.specs.Laws.{worth_at}
use Rattle.fleet_model.specs.Machine.{with_row}
use Rattle.fleet_model.proofs.Cells.{column_normalized}
use Rattle.fleet_model.proofs.Running.{sum-insert, sum-remove}
use Rattle.peer_rows.specs.declared.row.Row.{Row}
use Rattle.book_rows.specs.Shown.{arrivals, view_of_row}
use Rattle.book_rows.specs.Store.{put_arrival}
use Rattle.book_rows.proofs.Inside.{with_ended, with_living}
use Rattle.fleet_model.specs.Moments.{is_live}
use Rattle.fleet_model.specs.Values.{column_worth, is_of, share, value}
use Rattle.fleet_model.specs.declared.arrival.Arrival.{Arrival}
use Rattle.fleet_model.proofs.KeyRows.{value-rows}
use Rattle.std.specs.List.{AllByRecursion}
use Rattle.peer_rows.specs.Rows.{in_table}
use Rattle.book_frame.proofs.Listings.{map-filter}
use Rattle.book_rows.specs.Planned.{IsInside}
use Rattle.book_rows.proofs.Reading.{each_filter, eq_turned}

abbrev Entry : Type 0
Entry = RowKey × Row

-- ---- rows in order
keys_shown : (es : List (RowKey × Row)) → keys_of (arrivals es) ≡ keys_of es
keys_shown [] = refl
keys_shown (e ∷ es) = ap (λ places. e.0 ∷ places) (keys_shown es)

pub ordered_shown : (es : List (RowKey × Row)) → IsStrictlySortedBy row_key_cmp (keys_of es)
    → AreInOrder (arrivals es)
ordered_shown es sorted = subst (IsStrictlySortedBy row_key_cmp) (sym (keys_shown es)) sorted

-- ---- a row arrives
value_sum : (cols : List (Col × ℕ)) (rows : Rows) (table : ℕ) (key : List ℕ) (col : Col) (t : ℕ)
    → worth_of cols (key_rows rows table key) col t ≡ sum_by (share cols table key col t) rows
unfolding value
value_sum cols rows table key col t = sym (value-rows cols rows table key col t)

share_less : (cols : List (Col × ℕ)) (table : ℕ) (key : List ℕ) (col : Col) (t : ℕ) (row : RowKey
    × Arrival) → share cols table key col t row ≤ column_worth col (t - row.1.arrived)
    cols row.1.cells
unfolding share
share_less cols table key col t row = by (is_of table key t row)
  where
    by : (b : Bool) → cond b (column_worth col (t - row.1.arrived) cols row.1.cells) 0 ≤
        column_worth col (t - row.1.arrived) cols row.1.cells
    by true = omega arith
    by false = omega arith

put_more : (cols : List (Col × ℕ)) (rows : Rows) (t : ℕ) (place : RowKey) (row : Arrival)
    (col : Col) (live : Bool) → is_live t row ≡ live → AreInOrder rows
    → sum_by (share cols place.table place.key col t) (with_row t rows place row) ≤ sum_by
    (share cols place.table place.key col t) rows + column_worth col (t - row.arrived)
    cols row.cells
put_more cols rows t place row col true live ordered =
    let f : RowKey × Arrival → ℕ = share cols place.table place.key col t in
    let own : f (place, row) ≤ column_worth col (t - row.arrived) cols row.cells =
    share_less cols place.table place.key col t (place, row) in
    let sums : sum_by f (insert_entry row_key_cmp rows place row) + worth_at f rows place
    ≡ sum_by f rows + f (place, row) = sum-insert f rows place row ordered in
    rw (with_living t rows place row live) (omega arith)
put_more cols rows t place row col false ended ordered =
    let f : RowKey × Arrival → ℕ = share cols place.table place.key col t in
    let sums : sum_by f (remove_entry (is_at (row_key_cmp place)) rows) + worth_at f rows place
    ≡ sum_by f rows = sum-remove f rows place in
    rw (with_ended t rows place row ended) (omega arith)

-- a key is worth at most what it was, and what its new row is worth as it arrives
pub arriving_more : (cols : List (Col × ℕ)) (rows : Rows) (t : ℕ) (place : RowKey) (life : Option ℕ)
    (cells : List Cell) (col : Col) → AreInOrder rows
    → worth_of cols (key_rows (with_row t rows place (put_arrival t life cols cells)) place.table
    place.key) col t
    ≤ worth_of cols (key_rows rows place.table place.key) col t + column_worth col 0 cols cells
arriving_more cols rows t place life cells col ordered =
    let row : Arrival = put_arrival t life cols cells in
    let now : t - t ≡ 0 = omega arith in
    let kept : column_worth col (t - t) cols (normalized_cells cols cells) ≡ column_worth col 0 cols
    cells = ap (λ n. column_worth col n cols (normalized_cells cols cells)) now
    ∙ column_normalized cols cells col 0 in
    let more : sum_by (share cols place.table place.key col t) (with_row t rows place row) ≤ sum_by
    (share cols place.table place.key col t) rows + column_worth col (t - t) cols
    (normalized_cells cols cells) = put_more cols rows t place row col (is_live t row) refl
    ordered in
    let before : worth_of cols (key_rows rows place.table place.key) col t
    ≡ sum_by (share cols place.table place.key col t) rows =
    value_sum cols rows place.table place.key col t in
    let after : worth_of cols (key_rows (with_row t rows place row) place.table place.key) col t
    ≡ sum_by (share cols place.table place.key col t) (with_row t rows place row) =
    value_sum cols (with_row t rows place row) place.table place.key col t in
    omega arith

-- ---- the rows of a table
pub emptied_shown : (table : ℕ) (es : List Entry)
    → arrivals (filter (λ e. not (in_table table e.0)) es)
    ≡ filter (λ row. not (row.0.table == table)) (arrivals es)
emptied_shown table es =
    ap arrivals (each_filter (λ (e : Entry). not (in_table table e.0))
    (λ e. not (e.0.table == table)) (λ e. ap not (eq_turned table e.0.table)) es)
    ∙ map-filter view_of_row (λ (row : RowKey × Arrival). not (row.0.table == table)) es

pub none_emptied : (peers tables table : ℕ) (es : List Entry) → tables ≤ table
    → AllByRecursion (λ e. IsInside peers tables e.0) es
    → arrivals es ≡ filter (λ row. not (row.0.table == table)) (arrivals es)
none_emptied peers tables table [] outside inside = refl
none_emptied peers tables table (e ∷ es) outside inside =
    let in_range : e.0.table < tables = inside.0.1 in
    let other : (e.0.table == table) ≡ false = grind (arith, nat_tests) in
    rw other (ap (λ rows. view_of_row e ∷ rows) (none_emptied peers tables table es outside
    inside.1))
