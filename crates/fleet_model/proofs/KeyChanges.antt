-- A filter's next change is the first of its keys'.
use Rattle.std.proofs.Common.{◌≡◌, ◌≢◌, ◌⊎◌, ⊎_elim, ℕ, ◌+◌, ◌-◌, ◌*◌, ◌<◌, ◌≤◌, Bool, true, false}
use Rattle.std.proofs.Common.{cond, ◌&&◌, ◌||◌, max, List, [], ◌∷◌, Option, None, Some, refl, sym}
use Rattle.std.proofs.Common.{ap, ◌∙◌, subst, arith}
use Rattle.std.proofs.lemmas.Bool.{cases_order}
use Rattle.std.proofs.lemmas.Bool.Decides.{nat_tests}
use Rattle.std.proofs.lemmas.List.Sums.{sum_by-cons}
use Rattle.std.specs.List.{filter, list_all}
use Rattle.std.specs.Option.{unwrap_or}
use Rattle.period_rate.proofs.Falling.{rate_ends}
use Rattle.agg_types.specs.Col.{same_col}
use Rattle.agg_types.specs.Op.{op_holds}
use Rattle.agg_types.specs.declared.column.Col.{Col}
use Rattle.agg_types.specs.declared.config.Cond.{Cond}
use Rattle.agg_types.specs.declared.config.Filter.{Filter}
use Rattle.agg_types.specs.declared.event.Cell.{Cell}
use Rattle.agg_types.specs.declared.event.Cell.TheVariants.{Count, Rate}
use Rattle.agg_types.specs.declared.event.Event.{Event}
use Rattle.agg_types.specs.declared.event.What.TheVariants.{Moment}
use Rattle.agg_types.specs.declared.row_key.RowKey.{RowKey}
use Rattle.fleet_model.proofs.Falls.{live_keys-later, meets-later, moved_config, moved_rows}
use Rattle.fleet_model.proofs.KeyRows.{held-keys, live-rows, meets-rows, only-keys}
use Rattle.fleet_model.proofs.Sets.{live_keys-exact}
use Rattle.fleet_model.specs.Answers.{set_at}
use Rattle.fleet_model.specs.Changes.{IsKeyChange, IsTurn, NoKeyChangesBefore, TurnsFirstAt}
use Rattle.fleet_model.specs.Changes.{cell_flat_from, cells_flat_from, row_flat_from}
use Rattle.fleet_model.specs.Changes.{rows_flat_from}
use Rattle.fleet_model.specs.Keys.{AreKeysOf, Rows, has_live, holds, is_at_key, key_rows, meet_at}
use Rattle.fleet_model.specs.Keys.{row_worth, worth_of}
use Rattle.fleet_model.specs.Laws.{IsOrdered, has_live_row, is_key_among}
use Rattle.fleet_model.specs.Machine.{after, counts_now, happened}
use Rattle.fleet_model.specs.Moments.{is_live, lives}
use Rattle.fleet_model.specs.Next.{IsNextChange, flat_from, flat_moment, longest_period}
use Rattle.fleet_model.specs.Next.{table_flat_from}
use Rattle.fleet_model.specs.State.{State}
use Rattle.fleet_model.specs.Values.{cell_worth, cols_of, column_worth, meets}
use Rattle.fleet_model.specs.declared.arrival.Arrival.{Arrival}

-- ---- a turn, as now moves on
pub turn-later : (test : ℕ → Bool) (now told t : ℕ) → now ≤ told → told < t
    → TurnsFirstAt test now t → TurnsFirstAt test told t
turn-later test now told t up short h =
    let same : test told ≡ test now = at_told (cases_order now told) in
    record {
      later = short;
      differs = λ e. h.differs (e ∙ same);
      same_before = λ u later before. h.same_before u (omega arith) before ∙ sym same;
    }
  where
    at_told : (now ≡ told) ⊎ ((now < told) ⊎ (told < now)) → test told ≡ test now
    at_told order = ⊎_elim (λ e. ap test (sym e))
        (λ apart. ⊎_elim (λ later. h.same_before told later short)
        (λ before. absurd (omega arith)) apart) order

pub turn-never : (test : ℕ → Bool) (now told : ℕ) → now ≤ told → IsTurn test now None
    → IsTurn test told None
turn-never test now told up h t later =
    h t (omega arith) ∙ sym (at_told (cases_order now told))
  where
    at_told : (now ≡ told) ⊎ ((now < told) ⊎ (told < now)) → test told ≡ test now
    at_told order = ⊎_elim (λ e. ap test (sym e))
        (λ apart. ⊎_elim (λ later. h told later) (λ before. absurd (omega arith)) apart) order

-- ---- the clock doesn't change what is foreseen of a key
live-later : (rows : Rows) (table : ℕ) (key : List ℕ) (m t : ℕ) → m ≤ t
    → has_live_row (filter (λ row. is_live m row.1) rows) table key t
    ≡ has_live_row rows table key t
live-later rows table key m t h =
    sym (live_keys-exact (filter (λ row. is_live m row.1) rows) table t key)
    ∙ ap (is_key_among key) (live_keys-later rows table m t h)
    ∙ live_keys-exact rows table t key

holds-is : (state : State) (filtering : Filter) (key : List ℕ) (t : ℕ) → holds state filtering key t
    ≡ (has_live_row state.rows filtering.table key t
    && meets (cols_of state.config.tables filtering.table) state.rows filtering.table key t
    filtering.conds)
holds-is state filtering key t =
    λ i. sym (live-rows state.rows filtering.table key t) i
    && sym (meets-rows (cols_of state.config.tables filtering.table) state.rows filtering.table
    key t filtering.conds) i

happened-holds : (state : State) (e : Event) (told : ℕ) → e.what ≡ Moment told
    → (filtering : Filter) (key : List ℕ) (t : ℕ) → max state.moment told ≤ t
    → holds (happened state e e.what) filtering key t ≡ holds state filtering key t
happened-holds state e told is filtering key t h =
    let cols = cols_of state.config.tables filtering.table in
    let m = max state.moment told in
    (λ i. has_live (key_rows (moved_rows state e e.what told is i) filtering.table key) t
    && meet_at (cols_of (moved_config state e e.what told is i).tables filtering.table)
    (key_rows (moved_rows state e e.what told is i) filtering.table key) filtering.conds t)
    ∙ (λ i. sym (live-rows (filter (λ row. is_live m row.1) state.rows) filtering.table key t) i
    && sym (meets-rows cols (filter (λ row. is_live m row.1) state.rows) filtering.table key t
    filtering.conds) i)
    ∙ (λ i. live-later state.rows filtering.table key m t h i && meets-later cols state.rows
    filtering.table key m t h filtering.conds i)
    ∙ sym (holds-is state filtering key t)

pub holds-stays : (state : State) (e : Event) (told : ℕ) → e.what ≡ Moment told
    → (filtering : Filter) (key : List ℕ) (t : ℕ) → state.moment ≤ t → told ≤ t
    → holds (after state e) filtering key t ≡ holds state filtering key t
unfolding after
holds-stays state e told is filtering key t now later =
    elim (counts_now state e) as (λ b. holds (cond b (happened state e e.what) state) filtering key
    t ≡ holds state filtering key t) [
      | true ↦ happened-holds state e told is filtering key t (omega arith)
      | false ↦ refl
    ]

moved_moment : (state : State) (e : Event) (told : ℕ) → e.what ≡ Moment told
    → (happened state e e.what).moment ≡ max state.moment told
unfolding happened
moved_moment state e told is = ap (λ w. (happened state e w).moment) is

turn-along : (f g : ℕ → Bool) (now : ℕ) (next : Option ℕ) → ((t : ℕ) → now ≤ t → g t ≡ f t)
    → IsTurn f now next → IsTurn g now next
turn-along f g now None same h = λ t later. same t (omega arith) ∙ h t later
    ∙ sym (same now (omega arith))
turn-along f g now (Some t) same h = record {
  later = h.later;
  differs = let up : now < t = h.later in λ e. h.differs (sym (same t (omega arith)) ∙ e
      ∙ same now (omega arith));
  same_before = λ u later before. same u (omega arith) ∙ h.same_before u later before
      ∙ sym (same now (omega arith));
}

-- a moment short of a key's next change keeps it, and where none comes none comes later
pub change-stays : (state : State) (e : Event) (told : ℕ) → e.what ≡ Moment told
    → (filtering : Filter) (key : List ℕ) (t : ℕ) → told < t
    → IsKeyChange state filtering key (Some t) → IsKeyChange (after state e) filtering key (Some t)
unfolding after
change-stays state e told is filtering key t short h =
    let up : state.moment < t = h.later in
    let moved : (happened state e e.what).moment ≡ max state.moment told =
    moved_moment state e told is in
    elim (counts_now state e) as (λ b. IsKeyChange (cond b (happened state e e.what) state)
    filtering key (Some t)) [
      | true ↦ turn-along (λ u. holds state filtering key u)
          (λ u. holds (happened state e e.what) filtering key u)
          (happened state e e.what).moment (Some t)
          (λ u later. happened-holds state e told is filtering key u (omega arith))
          (turn-later (λ u. holds state filtering key u) state.moment
          (happened state e e.what).moment t (omega arith) (omega arith) h)
      | false ↦ h
    ]

pub never-stays : (state : State) (e : Event) (told : ℕ) → e.what ≡ Moment told
    → (filtering : Filter) (key : List ℕ) → IsKeyChange state filtering key None
    → IsKeyChange (after state e) filtering key None
unfolding after
never-stays state e told is filtering key h =
    let moved : (happened state e e.what).moment ≡ max state.moment told =
    moved_moment state e told is in
    elim (counts_now state e) as (λ b. IsKeyChange (cond b (happened state e e.what) state)
    filtering key None) [
      | true ↦ turn-along (λ u. holds state filtering key u)
          (λ u. holds (happened state e e.what) filtering key u)
          (happened state e e.what).moment None
          (λ u later. happened-holds state e told is filtering key u (omega arith))
          (turn-never (λ u. holds state filtering key u) state.moment
          (happened state e e.what).moment (omega arith) h)
      | false ↦ h
    ]

-- ---- a key without rows never changes
pub never-empty : (state : State) (filtering : Filter) (key : List ℕ)
    → key_rows state.rows filtering.table key ≡ [] → IsKeyChange state filtering key None
never-empty state filtering key none t later =
    let cols = cols_of state.config.tables filtering.table in
    (λ i. has_live (none i) t && meet_at cols (none i) filtering.conds t)
    ∙ sym (λ i. has_live (none i) state.moment && meet_at cols (none i)
    filtering.conds state.moment)

-- ---- the filter's
same_sets : (state : State) (filtering : Filter) (u : ℕ) → IsOrdered state
    → ((key : List ℕ) → holds state filtering key u ≡ holds state filtering key state.moment)
    → set_at state filtering u ≡ set_at state filtering state.moment
same_sets state filtering u ordered same =
    let now = held-keys state filtering state.moment ordered in
    let then = held-keys state filtering u ordered in
    only-keys (λ key. holds state filtering key state.moment) _ _
    (record { in_order = then.in_order; exact = λ key. then.exact key ∙ same key }) now

pub first-change : (state : State) (filtering : Filter) (key : List ℕ) (t : ℕ) → IsOrdered state
    → IsKeyChange state filtering key (Some t) → NoKeyChangesBefore state filtering t
    → IsNextChange state filtering (Some t)
first-change state filtering key t ordered h before =
    let now = held-keys state filtering state.moment ordered in
    let then = held-keys state filtering t ordered in
    record {
      later = h.later;
      differs = λ e. h.differs (sym (then.exact key) ∙ ap (is_key_among key) e ∙ now.exact key);
      same_before = λ u later short. same_sets state filtering u ordered
          (λ other. before other u later short);
    }

pub no-change : (state : State) (filtering : Filter) → IsOrdered state
    → ((key : List ℕ) → IsKeyChange state filtering key None) → IsNextChange state filtering None
no-change state filtering ordered h t later =
    same_sets state filtering t ordered (λ key. h key t later)

-- ---- from when on nothing changes at a key
cell_flat : (period arrived t later : ℕ) (cell : Cell) → cell_flat_from arrived period cell ≤ t
    → t ≤ later → cell_worth period (later - arrived) cell ≡ cell_worth period (t - arrived) cell
unfolding cell_worth
cell_flat period arrived t later (Count count) flat h = refl
cell_flat period arrived t later (Rate elapsed cur prev) flat h =
    let early : 2 * period < elapsed + (t - arrived) = omega arith in
    let late : 2 * period < elapsed + (later - arrived) = omega arith in
    rate_ends period prev cur (elapsed + (later - arrived)) late
    ∙ sym (rate_ends period prev cur (elapsed + (t - arrived)) early)

column_flat : (col : Col) (arrived t later : ℕ) (cols : List (Col × ℕ)) (cells : List Cell)
    → cells_flat_from arrived cols cells ≤ t → t ≤ later
    → column_worth col (later - arrived) cols cells ≡ column_worth col (t - arrived) cols cells
column_flat col arrived t later [] cells flat h = refl
column_flat col arrived t later (stored ∷ cols) [] flat h = refl
column_flat col arrived t later (stored ∷ cols) (cell ∷ cells) flat h =
    let own : cell_flat_from arrived stored.1 cell ≤ t = omega arith in
    let rest : cells_flat_from arrived cols cells ≤ t = omega arith in
    (λ i. cond (same_col stored.0 col) (cell_flat stored.1 arrived t later cell own h i)
    (column_flat col arrived t later cols cells rest h i))

life_flat : (life : Option ℕ) (arrived t later : ℕ) → arrived + unwrap_or life 0 ≤ t → t ≤ later
    → lives life arrived later ≡ lives life arrived t
life_flat None arrived t later flat h = refl
life_flat (Some life) arrived t later flat h = grind (arith, nat_tests)

module _ (cols : List (Col × ℕ)) (t later : ℕ) (h : t ≤ later) where
  pub live_flat : (row : Arrival) → row_flat_from cols row ≤ t → is_live later row ≡ is_live t row
  live_flat row flat = let over : row.arrived + unwrap_or row.life 0 ≤ t = omega arith in
      life_flat row.life row.arrived t later over h

  worth_flat : (col : Col) (row : Arrival) → row_flat_from cols row ≤ t
      → row_worth cols col later row ≡ row_worth cols col t row
  worth_flat col row flat =
      let over : cells_flat_from row.arrived cols row.cells ≤ t = omega arith in
      (λ i. cond (live_flat row flat i)
      (column_flat col row.arrived t later cols row.cells over h i) 0)

  pub rows_worth_flat : (col : Col) (rows : Rows) → rows_flat_from cols rows ≤ t
      → worth_of cols rows col later ≡ worth_of cols rows col t
  rows_worth_flat col [] flat = refl
  rows_worth_flat col (row ∷ rows) flat =
      let own : row_flat_from cols row.1 ≤ t = omega arith in
      let others : rows_flat_from cols rows ≤ t = omega arith in
      sum_by-cons (λ (row : RowKey × Arrival). row_worth cols col later row.1) row rows
      ∙ (λ i. worth_flat col row.1 own i + rows_worth_flat col rows others i)
      ∙ sym (sum_by-cons (λ (row : RowKey × Arrival). row_worth cols col t row.1) row rows)

  rows_live_flat : (rows : Rows) → rows_flat_from cols rows ≤ t
      → has_live rows later ≡ has_live rows t
  rows_live_flat [] flat = refl
  rows_live_flat (row ∷ rows) flat =
      let own : row_flat_from cols row.1 ≤ t = omega arith in
      let others : rows_flat_from cols rows ≤ t = omega arith in
      (λ i. live_flat row.1 own i || rows_live_flat rows others i)

pub key-flat : (state : State) (filtering : Filter) (key : List ℕ) (t later : ℕ)
    → rows_flat_from (cols_of state.config.tables filtering.table)
    (key_rows state.rows filtering.table key) ≤ t → t ≤ later → holds state filtering key later
    ≡ holds state filtering key t
key-flat state filtering key t later flat h =
    let cols = cols_of state.config.tables filtering.table in
    let rows = key_rows state.rows filtering.table key in
    λ i. rows_live_flat cols t later h rows flat i
    && list_all (λ cond. op_holds cond.op (rows_worth_flat cols t later h cond.col rows flat i)
    cond.bound) filtering.conds

-- a key is flat no later than its table
cell_within : (period arrived : ℕ) (cell : Cell) → cell_flat_from arrived period cell ≤ arrived +
    (2 * period + 1)
cell_within period arrived (Count count) = omega arith
cell_within period arrived (Rate elapsed cur prev) = omega arith

cells_within : (arrived : ℕ) (cols : List (Col × ℕ)) (cells : List Cell)
    → cells_flat_from arrived cols cells ≤ arrived + (2 * longest_period cols + 1)
cells_within arrived [] cells = omega arith
cells_within arrived (col ∷ cols) [] = omega arith
cells_within arrived (col ∷ cols) (cell ∷ cells) = let own = cell_within col.1 arrived cell in
    let rest = cells_within arrived cols cells in omega arith

pub rows-within : (cols : List (Col × ℕ)) (rows : Rows) (table : ℕ) (key : List ℕ)
    → rows_flat_from cols (key_rows rows table key) ≤ flat_moment (longest_period cols) rows
rows-within cols [] table key = omega arith
rows-within cols (row ∷ rows) table key =
    let rest = rows-within cols rows table key in
    let own = cells_within row.1.arrived cols row.1.cells in
    elim (is_at_key table key row.0) as
    (λ b. rows_flat_from cols (cond b (row ∷ key_rows rows table key) (key_rows rows table key))
    ≤ flat_moment (longest_period cols) (row ∷ rows)) [
      | true ↦ omega arith
      | false ↦ omega arith
    ]

-- the moment by the longest period is no earlier than that of each row's own rates
pub rows-under : (cols : List (Col × ℕ)) (rows : Rows)
    → rows_flat_from cols rows ≤ flat_moment (longest_period cols) rows
rows-under cols [] = omega arith
rows-under cols (row ∷ rows) =
    let rest = rows-under cols rows in
    let own = cells_within row.1.arrived cols row.1.cells in
    omega arith
