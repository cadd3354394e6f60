-- From some moment on the clock changes no set.
use Rattle.std.proofs.Common.{◌≡◌, ℕ, ◌+◌, ◌-◌, ◌*◌, ◌<◌, ◌≤◌, cond, ◌&&◌, ◌==◌, List, [], ◌∷◌, map}
use Rattle.std.proofs.Common.{Option, None, Some, refl, sym, ap, ◌∙◌, arith}
use Rattle.std.proofs.lemmas.Bool.Decides.{nat_tests}
use Rattle.std.proofs.lemmas.List.Sums.{sum_by-cons}
use Rattle.std.specs.List.{dedup, filter, list_all}
use Rattle.period_rate.proofs.Falling.{rate_ends}
use Rattle.agg_types.specs.Col.{same_col}
use Rattle.agg_types.specs.Op.{op_holds}
use Rattle.agg_types.specs.declared.column.Col.{Col}
use Rattle.agg_types.specs.declared.config.Cond.{Cond}
use Rattle.agg_types.specs.declared.config.Filter.{Filter}
use Rattle.agg_types.specs.declared.event.Cell.{Cell}
use Rattle.agg_types.specs.declared.event.Cell.TheVariants.{Count, Rate}
use Rattle.agg_types.specs.declared.row_key.RowKey.{RowKey}
use Rattle.fleet_model.specs.Answers.{set_at}
use Rattle.fleet_model.specs.Moments.{is_live, lives}
use Rattle.fleet_model.specs.Next.{flat_from, flat_moment, longest_period, table_flat_from}
use Rattle.fleet_model.specs.State.{State}
use Rattle.fleet_model.specs.Values.{cell_worth, cols_of, column_worth, live_keys, meets, same_key}
use Rattle.fleet_model.specs.Values.{share, value}
use Rattle.fleet_model.specs.declared.arrival.Arrival.{Arrival}

cell_flat : (period since later : ℕ) (cell : Cell) → 2 * period < since → since ≤ later
    → cell_worth period later cell ≡ cell_worth period since cell
unfolding cell_worth
cell_flat period since later (Count count) over h = refl
cell_flat period since later (Rate elapsed cur prev) over h =
    let early : 2 * period < elapsed + since = omega arith in
    let late : 2 * period < elapsed + later = omega arith in
    rate_ends period prev cur (elapsed + later) late
    ∙ sym (rate_ends period prev cur (elapsed + since) early)

column_flat : (col : Col) (since later : ℕ) (cols : List (Col × ℕ)) (cells : List Cell)
    → 2 * longest_period cols < since → since ≤ later → column_worth col later cols cells
    ≡ column_worth col since cols cells
column_flat col since later [] cells over h = refl
column_flat col since later (stored ∷ cols) [] over h = refl
column_flat col since later (stored ∷ cols) (cell ∷ cells) over h =
    let own : 2 * stored.1 < since = omega arith in
    let rest : 2 * longest_period cols < since = omega arith in
    (λ i. cond (same_col stored.0 col) (cell_flat stored.1 since later cell own h i)
    (column_flat col since later cols cells rest h i))

life_flat : (life : Option ℕ) (arrived longest t later : ℕ)
    → flat_from longest (record { arrived = arrived; life = life; cells = [] }) ≤ t → t ≤ later
    → lives life arrived later ≡ lives life arrived t
life_flat None arrived longest t later flat h = refl
life_flat (Some life) arrived longest t later flat h =
    let now : arrived + life ≤ t = omega arith in
    grind (arith, nat_tests)

module _ (cols : List (Col × ℕ)) (table t later : ℕ) (h : t ≤ later) where
  live_flat : (row : Arrival) → flat_from (longest_period cols) row ≤ t
      → is_live later row ≡ is_live t row
  live_flat row flat = life_flat row.life row.arrived (longest_period cols) t later flat h

  share_flat : (key : List ℕ) (col : Col) (row : RowKey × Arrival)
      → flat_from (longest_period cols) row.1 ≤ t → share cols table key col later row
      ≡ share cols table key col t row
  unfolding share
  share_flat key col row flat =
      let over : 2 * longest_period cols < t - row.1.arrived = omega arith in
      let since : t - row.1.arrived ≤ later - row.1.arrived = omega arith in
      (λ i. cond (((row.0.table == table) && same_key key row.0.key) && live_flat row.1 flat i)
      (column_flat col (t - row.1.arrived) (later - row.1.arrived) cols row.1.cells
      over since i) 0)

  value_flat : (key : List ℕ) (col : Col) (rows : List (RowKey × Arrival))
      → flat_moment (longest_period cols) rows ≤ t → value cols rows table key col later
      ≡ value cols rows table key col t
  unfolding value
  value_flat key col [] flat = refl
  value_flat key col (row ∷ rows) flat =
      let own : flat_from (longest_period cols) row.1 ≤ t = omega arith in
      let others : flat_moment (longest_period cols) rows ≤ t = omega arith in
      sum_by-cons (share cols table key col later) row rows
      ∙ (λ i. share_flat key col row own i + value_flat key col rows others i)
      ∙ sym (sum_by-cons (share cols table key col t) row rows)

  meets_flat : (key : List ℕ) (rows : List (RowKey × Arrival)) (conds : List Cond)
      → flat_moment (longest_period cols) rows ≤ t → meets cols rows table key later conds
      ≡ meets cols rows table key t conds
  unfolding meets
  meets_flat key rows conds flat =
      λ i. list_all (λ cond. op_holds cond.op (value_flat key cond.col rows flat i) cond.bound)
      conds

  rows_flat : (rows : List (RowKey × Arrival)) → flat_moment (longest_period cols) rows ≤ t
      → filter (λ row. (row.0.table == table) && is_live later row.1) rows
      ≡ filter (λ row. (row.0.table == table) && is_live t row.1) rows
  rows_flat [] flat = refl
  rows_flat (row ∷ rows) flat =
      let own : flat_from (longest_period cols) row.1 ≤ t = omega arith in
      let others : flat_moment (longest_period cols) rows ≤ t = omega arith in
      (λ i. cond ((row.0.table == table) && live_flat row.1 own i) (row ∷ rows_flat rows others i)
      (rows_flat rows others i))

  keys_flat : (rows : List (RowKey × Arrival)) → flat_moment (longest_period cols) rows ≤ t
      → live_keys rows table later ≡ live_keys rows table t
  unfolding live_keys
  keys_flat rows flat = ap (λ (rs : List (RowKey × Arrival)). dedup same_key
      (map (λ row. row.0.key) rs)) (rows_flat rows flat)

-- from the moment from which the rows are flat a filter's set stays
pub sets_flat : (state : State) (filtering : Filter) (t later : ℕ)
    → table_flat_from state filtering.table ≤ t → t ≤ later → set_at state filtering later
    ≡ set_at state filtering t
unfolding set_at
sets_flat state filtering t later flat h =
    let cols = cols_of state.config.tables filtering.table in
    λ i. filter (λ key. meets_flat cols filtering.table t later h key state.rows filtering.conds
    flat i) (keys_flat cols filtering.table t later h state.rows flat i)
