-- What the clock alone does to values and sets.
use Rattle.std.proofs.Common.{◌≡◌, ℕ, ◌+◌, ◌-◌, ◌≤◌, Bool, true, false, cond, ◌&&◌, ◌==◌, max, List}
use Rattle.std.proofs.Common.{[], ◌∷◌, ◌++◌, map, Option, None, Some, refl, sym, ap, ◌∙◌, arith}
use Rattle.std.proofs.lemmas.Bool.Decides.{nat_tests}
use Rattle.std.proofs.lemmas.List.Sums.{sum_by-cons, sum_by-le-sum_by}
use Rattle.std.specs.List.{dedup, filter, list_all, sum_by}
use Rattle.period_rate.proofs.Falling.{rate_falls}
use Rattle.agg_types.specs.Col.{same_col}
use Rattle.agg_types.specs.Op.{op_holds}
use Rattle.agg_types.specs.declared.column.Col.{Col}
use Rattle.agg_types.specs.declared.config.Cond.{Cond}
use Rattle.agg_types.specs.declared.config.Config.{Config}
use Rattle.agg_types.specs.declared.config.Filter.{Filter}
use Rattle.agg_types.specs.declared.event.Cell.{Cell}
use Rattle.agg_types.specs.declared.event.Cell.TheVariants.{Count, Rate}
use Rattle.agg_types.specs.declared.event.Event.{Event}
use Rattle.agg_types.specs.declared.event.What.{What}
use Rattle.agg_types.specs.declared.event.What.TheVariants.{Moment}
use Rattle.agg_types.specs.declared.row_key.RowKey.{RowKey}
use Rattle.fleet_model.specs.Answers.{set_at}
use Rattle.fleet_model.specs.Machine.{after, counts_now, happened}
use Rattle.fleet_model.specs.Moments.{is_live, lives}
use Rattle.fleet_model.specs.State.{State}
use Rattle.fleet_model.specs.Values.{cell_worth, cols_of, column_worth, live_keys, meets, same_key}
use Rattle.fleet_model.specs.Values.{share, value}
use Rattle.fleet_model.specs.declared.arrival.Arrival.{Arrival}

-- ---- values never rise
cell_falls : (period since later : ℕ) (cell : Cell) → since ≤ later
    → cell_worth period later cell ≤ cell_worth period since cell
unfolding cell_worth
cell_falls period since later (Count count) h = omega arith
cell_falls period since later (Rate elapsed cur prev) h =
    let e : elapsed + since ≤ elapsed + later = omega arith in
    rate_falls period prev cur (elapsed + since) (elapsed + later) e

column_falls : (col : Col) (since later : ℕ) (cols : List (Col × ℕ)) (cells : List Cell)
    → since ≤ later → column_worth col later cols cells ≤ column_worth col since cols cells
column_falls col since later [] cells h = omega arith
column_falls col since later (stored ∷ cols) [] h = omega arith
column_falls col since later (stored ∷ cols) (cell ∷ cells) h =
    elim (same_col stored.0 col) as (λ b. cond b (cell_worth stored.1 later cell)
    (column_worth col later cols cells) ≤ cond b (cell_worth stored.1 since cell)
    (column_worth col since cols cells)) [
      | true ↦ cell_falls stored.1 since later cell h
      | false ↦ column_falls col since later cols cells h
    ]

-- a row that lives later lives now
pub lived_before : (life : Option ℕ) (arrived t u : ℕ) → t ≤ u → lives life arrived u ≡ true
    → lives life arrived t ≡ true
lived_before None arrived t u h e = refl
lived_before (Some life) arrived t u h e = grind (arith, nat_tests)

kept_falls : (its now later : Bool) (m n : ℕ) → (later ≡ true → now ≡ true) → n ≤ m
    → cond (its && later) n 0 ≤ cond (its && now) m 0
kept_falls true true true m n h le = le
kept_falls true false true m n h le = let no = h refl in cc
kept_falls true now false m n h le = omega arith
kept_falls false now later m n h le = omega arith

share_falls : (cols : List (Col × ℕ)) (table : ℕ) (key : List ℕ) (col : Col) (t u : ℕ) → t ≤ u
    → (row : RowKey × Arrival) → share cols table key col u row ≤ share cols table key col t row
unfolding share
share_falls cols table key col t u h row =
    let since : t - row.1.arrived ≤ u - row.1.arrived = omega arith in
    kept_falls ((row.0.table == table) && same_key key row.0.key) (is_live t row.1)
    (is_live u row.1)
    (column_worth col (t - row.1.arrived) cols row.1.cells)
    (column_worth col (u - row.1.arrived) cols row.1.cells)
    (lived_before row.1.life row.1.arrived t u h)
    (column_falls col (t - row.1.arrived) (u - row.1.arrived) cols row.1.cells since)

-- a value never rises by the clock alone
pub value_falls : (cols : List (Col × ℕ)) (rows : List (RowKey × Arrival)) (table : ℕ)
    (key : List ℕ) (col : Col) (t u : ℕ) → t ≤ u → value cols rows table key col u ≤ value cols rows
    table key col t
unfolding value
value_falls cols rows table key col t u h =
    sum_by-le-sum_by (share cols table key col u) (share cols table key col t) rows
    (share_falls cols table key col t u h)

-- ---- rows that have ended by now don't matter later
ended : (now later : Bool) → (later ≡ true → now ≡ true) → now ≡ false → later ≡ false
ended now true h e = sym (h refl) ∙ e
ended now false h e = refl

ended_share : (cols : List (Col × ℕ)) (table : ℕ) (key : List ℕ) (col : Col) (m t : ℕ) → m ≤ t
    → (row : RowKey × Arrival) → is_live m row.1 ≡ false → share cols table key col t row ≡ 0
unfolding share
ended_share cols table key col m t h row e =
    ap (λ b. cond (((row.0.table == table) && same_key key row.0.key) && b)
    (column_worth col (t - row.1.arrived) cols row.1.cells) 0)
    (ended (is_live m row.1) (is_live t row.1) (lived_before row.1.life row.1.arrived m t h) e)
    ∙ nothing ((row.0.table == table) && same_key key row.0.key)
    (column_worth col (t - row.1.arrived) cols row.1.cells)
  where
    nothing : (b : Bool) (n : ℕ) → cond (b && false) n 0 ≡ 0
    nothing true n = refl
    nothing false n = refl

pub value-later : (cols : List (Col × ℕ)) (rows : List (RowKey × Arrival)) (table : ℕ)
    (key : List ℕ)
    (col : Col) (m t : ℕ) → m ≤ t → value cols (filter (λ row. is_live m row.1) rows) table key col
    t ≡ value cols rows table key col t
unfolding value
value-later cols [] table key col m t h = refl
value-later cols (row ∷ rows) table key col m t h =
    let one : ℕ = share cols table key col t row in
    let rest = value-later cols rows table key col m t h in
    let whole = sum_by-cons (share cols table key col t) row rows in
    elim (is_live m row.1) as (λ b. is_live m row.1 ≡ b
    → sum_by (share cols table key col t) (cond b (row ∷ filter (λ row. is_live m row.1) rows)
    (filter (λ row. is_live m row.1) rows)) ≡ sum_by (share cols table key col t) (row ∷ rows)) [
      | true ↦ λ e. sum_by-cons (share cols table key col t) row
          (filter (λ row. is_live m row.1) rows)
          ∙ ap (λ n. share cols table key col t row + n) rest ∙ sym whole
      | false ↦ λ e. let none = ended_share cols table key col m t h row e in omega arith
    ] refl

abbrev in_table : ℕ → ℕ → RowKey × Arrival → Bool
in_table table t row = (row.0.table == table) && is_live t row.1

both_gone : (its now later : Bool) (row : RowKey × Arrival) (xs ys : List (RowKey × Arrival))
    → (later ≡ true → now ≡ true) → xs ≡ ys → cond now (cond (its && later) (row ∷ xs) xs) xs
    ≡ cond (its && later) (row ∷ ys) ys
both_gone its true later row xs ys h e = ap (λ zs. cond (its && later) (row ∷ zs) zs) e
both_gone true false true row xs ys h e = let no = h refl in cc
both_gone true false false row xs ys h e = e
both_gone false false later row xs ys h e = e

filter-cond : (p : RowKey × Arrival → Bool) (b : Bool) (row : RowKey × Arrival)
    (rows : List (RowKey × Arrival)) → filter p (cond b (row ∷ rows) rows)
    ≡ cond b (cond (p row) (row ∷ filter p rows) (filter p rows)) (filter p rows)
filter-cond p true row rows = refl
filter-cond p false row rows = refl

same_rows : (table m t : ℕ) → m ≤ t → (rows : List (RowKey × Arrival))
    → filter (in_table table t) (filter (λ row. is_live m row.1) rows)
    ≡ filter (in_table table t) rows
same_rows table m t h [] = refl
same_rows table m t h (row ∷ rows) =
    filter-cond (in_table table t) (is_live m row.1) row (filter (λ row. is_live m row.1) rows)
    ∙ both_gone (row.0.table == table) (is_live m row.1) (is_live t row.1) row
    (filter (in_table table t) (filter (λ row. is_live m row.1) rows))
    (filter (in_table table t) rows) (lived_before row.1.life row.1.arrived m t h)
    (same_rows table m t h rows)

pub live_keys-later : (rows : List (RowKey × Arrival)) (table m t : ℕ) → m ≤ t
    → live_keys (filter (λ row. is_live m row.1) rows) table t ≡ live_keys rows table t
unfolding live_keys
live_keys-later rows table m t h =
    ap (λ (rs : List (RowKey × Arrival)). dedup same_key (map (λ row. row.0.key) rs))
    (same_rows table m t h rows)

pub meets-later : (cols : List (Col × ℕ)) (rows : List (RowKey × Arrival)) (table : ℕ)
    (key : List ℕ)
    (m t : ℕ) → m ≤ t → (conds : List Cond) → meets cols (filter (λ row. is_live m row.1) rows)
    table key t conds ≡ meets cols rows table key t conds
unfolding meets
meets-later cols rows table key m t h conds =
    λ i. list_all (λ cond. op_holds cond.op (value-later cols rows table key cond.col m t h i)
    cond.bound) conds

set_at-later : (s : State) (told : ℕ) (filtering : Filter) (t : ℕ) → told ≤ t
    → (rows : List (RowKey × Arrival)) → rows ≡ filter (λ row. is_live told row.1) s.rows
    → filter (λ key. meets (cols_of s.config.tables filtering.table) rows filtering.table key t
    filtering.conds) (live_keys rows filtering.table t) ≡ set_at s filtering t
unfolding set_at
set_at-later s told filtering t h rows e =
    ap (λ rows. filter (λ key. meets (cols_of s.config.tables filtering.table) rows filtering.table
    key t filtering.conds) (live_keys rows filtering.table t)) e
    ∙ (λ i. filter (λ key. meets-later (cols_of s.config.tables filtering.table) s.rows
    filtering.table key told t h filtering.conds i)
    (live_keys-later s.rows filtering.table told t h i))

pub moved_rows : (s : State) (e : Event) (w : What) (told : ℕ) → w ≡ Moment told
    → (happened s e w).rows ≡ filter (λ row. is_live (max s.moment told) row.1) s.rows
unfolding happened
moved_rows s e w told is = ap (λ w. (happened s e w).rows) is

pub moved_config : (s : State) (e : Event) (w : What) (told : ℕ) → w ≡ Moment told
    → (happened s e w).config ≡ s.config
unfolding happened
moved_config s e w told is = ap (λ w. (happened s e w).config) is

-- what a filter holds from a moment on doesn't depend on whether that moment was told
pub sets_stay : (s : State) (e : Event) (told : ℕ) → e.what ≡ Moment told
    → (filtering : Filter) (t : ℕ) → s.moment ≤ t → told ≤ t → set_at (after s e) filtering t
    ≡ set_at s filtering t
unfolding after set_at
sets_stay s e told is filtering t now later =
    let h : max s.moment told ≤ t = omega arith in
    elim (counts_now s e) as (λ b. set_at (cond b (happened s e e.what) s) filtering t
    ≡ set_at s filtering t) [
      | true ↦ ap (λ (config : Config). filter (λ key. meets (cols_of config.tables filtering.table)
          (happened s e e.what).rows filtering.table key t filtering.conds)
          (live_keys (happened s e e.what).rows filtering.table t))
          (moved_config s e e.what told is)
          ∙ set_at-later s (max s.moment told) filtering t h (happened s e e.what).rows
          (moved_rows s e e.what told is)
      | false ↦ refl
    ]

pub values_stay : (s : State) (e : Event) (told : ℕ) → e.what ≡ Moment told
    → (cols : List (Col × ℕ)) (table : ℕ) (key : List ℕ) (col : Col) (t : ℕ) → s.moment ≤ t
    → told ≤ t → value cols (after s e).rows table key col t ≡ value cols s.rows table key col t
unfolding after
values_stay s e told is cols table key col t now later =
    let h : max s.moment told ≤ t = omega arith in
    elim (counts_now s e) as (λ b. value cols (cond b (happened s e e.what) s).rows table key col t
    ≡ value cols s.rows table key col t) [
      | true ↦ ap (λ (rows : List (RowKey × Arrival)). value cols rows table key col t)
          (moved_rows s e e.what told is)
          ∙ value-later cols s.rows table key col (max s.moment told) t h
      | false ↦ refl
    ]
