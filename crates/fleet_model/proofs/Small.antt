-- Moments and lives stay so small that no set changes behind moments of 64 bits.
use Rattle.std.proofs.Common.{◌≡◌, ℕ, ◌+◌, ◌^◌, ◌<◌, ◌≤◌, Bool}
use Rattle.std.proofs.Common.{true, false, cond, ◌&&◌, nat_lt, List}
use Rattle.std.proofs.Common.{[], ◌∷◌, Option, None, Some, refl, sym, subst, arith, length}
use Rattle.std.proofs.lemmas.Bool.{and_parts}
use Rattle.std.proofs.lemmas.Bool.Decides.{nat_tests}
use Rattle.std.specs.BTreeMap.{insert_entry, is_at}
use Rattle.std.specs.List.{AllByRecursion}
use Rattle.std.specs.Map.{remove_entry}
use Rattle.std.specs.Option.{unwrap_or}
use Rattle.agg_types.specs.Fits.{at_table, cells_fit, fits, key_fits, life_fits}
use Rattle.agg_types.specs.RowKey.{row_key_cmp}
use Rattle.agg_types.specs.declared.config.Config.{Config}
use Rattle.agg_types.specs.declared.config.Shape.{Shape}
use Rattle.agg_types.specs.declared.event.Cell.{Cell}
use Rattle.agg_types.specs.declared.event.Event.{Event}
use Rattle.agg_types.specs.declared.event.What.{What}
use Rattle.agg_types.specs.declared.event.What.TheVariants.{Sit, Open, Put, Clear, AddFilter}
use Rattle.agg_types.specs.declared.event.What.TheVariants.{DropFilter, Moment, Leave}
use Rattle.agg_types.specs.declared.limits.TheConstants.{LAST_MOMENT, MOST_SEATS}
use Rattle.agg_types.specs.declared.row_key.RowKey.{RowKey}
use Rattle.fleet_model.proofs.Checked.{periods_short}
use Rattle.fleet_model.proofs.Every.{every-filter, every-insert, every-map, every-remove}
use Rattle.fleet_model.proofs.InForce.{row_key_cmp_exact}
use Rattle.fleet_model.proofs.Runs.{along}
use Rattle.fleet_model.specs.Machine.{after, counts_now, happened, number_of, opened, session_of}
use Rattle.fleet_model.specs.Machine.{with_put, with_row}
use Rattle.fleet_model.specs.Keys.{key_rows}
use Rattle.fleet_model.specs.Moments.{is_live}
use Rattle.fleet_model.specs.Next.{flat_moment, longest_period, table_flat_from}
use Rattle.fleet_model.specs.Rows.{has_room, arrival_of}
use Rattle.fleet_model.specs.Seats.{is_next, is_number}
use Rattle.fleet_model.specs.Sound.{IsSound, IsSoundRow}
use Rattle.fleet_model.specs.State.{State, state_of}
use Rattle.fleet_model.specs.Values.{cols_of}
use Rattle.fleet_model.specs.declared.arrival.Arrival.{Arrival}

abbrev IsSmall : RowKey × Arrival → Type 0
IsSmall row = (row.1.arrived ≤ LAST_MOMENT) × (unwrap_or row.1.life 0 < 2 ^ 32)

record Small (state : State) : Type 0 where
  moment : state.moment ≤ LAST_MOMENT
  rows : AllByRecursion IsSmall state.rows

small_life : (life : Option ℕ) → life_fits life ≡ true → unwrap_or life 0 < 2 ^ 32
small_life None h = omega arith
small_life (Some life) h = grind (arith, nat_tests)

-- a life that fits
life_from : (config : Config) (peer table : ℕ) (key : List ℕ) (life : Option ℕ) (cells : List Cell)
    → fits config (Put peer table key life cells) ≡ true → life_fits life ≡ true
life_from config peer table key life cells fit =
    let front = and_parts (nat_lt peer (length config.peers) && life_fits life)
    (at_table config.tables table (λ shape. key_fits shape.kind key && cells_fit shape.cols
    cells)) fit in
    (and_parts (nat_lt peer (length config.peers)) (life_fits life) front.0).1

small_put : (taken live : Bool) (rows : List (RowKey × Arrival)) (place : RowKey) (row : Arrival)
    → AllByRecursion IsSmall rows → IsSmall (place, row)
    → AllByRecursion IsSmall (cond taken (cond live (insert_entry row_key_cmp rows place row)
    (remove_entry (is_at (row_key_cmp place)) rows)) rows)
small_put true true rows place row h own = every-insert IsSmall row_key_cmp row_key_cmp_exact rows
    place row h own
small_put true false rows place row h own = every-remove IsSmall (is_at (row_key_cmp place)) rows h
small_put false live rows place row h own = h

small_happened : (state : State) (e : Event) (what : What) → fits state.config what ≡ true
    → Small state → Small (happened state e what)
unfolding happened with_put with_row
small_happened state e Sit fit h = record { moment = h.moment; rows = h.rows }
small_happened state e (Open peer) fit h = record { moment = h.moment; rows = h.rows }
small_happened state e (Put peer table key life cells) fit h =
    let place : RowKey = record { table = table; key = key; peer = peer } in
    let row : Arrival = arrival_of state.config.tables table state.moment life cells in
    record {
      moment = h.moment;
      rows = small_put (is_number (session_of state peer) e.seat && has_room state.config
          state.rows place life) (is_live state.moment row) state.rows place row h.rows
          (h.moment, small_life life (life_from state.config peer table key life cells fit));
    }
small_happened state e (Clear table sel) fit h =
    record { moment = h.moment; rows = every-filter IsSmall _ state.rows h.rows }
small_happened state e (AddFilter filter) fit h = record { moment = h.moment; rows = h.rows }
small_happened state e (DropFilter name) fit h = record { moment = h.moment; rows = h.rows }
small_happened state e (Moment moment) fit h =
    let told : moment ≤ LAST_MOMENT = grind (arith, nat_tests) in
    let now : state.moment ≤ LAST_MOMENT = h.moment in
    record { moment = omega arith; rows = every-filter IsSmall _ state.rows h.rows }
small_happened state e Leave fit h = record { moment = h.moment; rows = h.rows }

small_after : (state : State) (e : Event) → Small state → Small (after state e)
unfolding after counts_now
small_after state e h =
    elim (counts_now state e) as (λ b. counts_now state e ≡ b
    → Small (cond b (happened state e e.what) state)) [
      | true ↦ λ counts. small_happened state e e.what
          (and_parts (fits state.config e.what)
          (is_next e.what e.seat e.seq (nat_lt (length state.seats) MOST_SEATS) state.next_seat
          (number_of state e.seat)) counts).0 h
      | false ↦ λ not. h
    ] refl

small_opened : (config : Config) (opening : ℕ) → opening ≤ LAST_MOMENT
    → Small (opened config opening)
unfolding opened
small_opened config opening small = record { moment = small; rows = tt }

small_flat : (longest : ℕ) (rows : List (RowKey × Arrival)) → longest < 2 ^ 32
    → AllByRecursion IsSmall rows → flat_moment longest rows < 2 ^ 64
small_flat longest [] short h = omega arith
small_flat longest (row ∷ rows) short h =
    let arrived : row.1.arrived ≤ LAST_MOMENT = h.0.0 in
    let life : unwrap_or row.1.life 0 < 2 ^ 32 = h.0.1 in
    let rest : flat_moment longest rows < 2 ^ 64 = small_flat longest rows short h.1 in
    omega arith

same_tables : (config : Config) (opening : ℕ) (events : List Event)
    → (state_of config opening events).config.tables ≡ config.tables
unfolding state_of
same_tables config opening events = refl

-- no set changes by the clock behind moments of 64 bits
pub flat_in_time : (config : Config) (opening : ℕ) (events : List Event) (table : ℕ)
    → opening ≤ LAST_MOMENT → longest_period (cols_of config.tables table) < 2 ^ 32
    → table_flat_from (state_of config opening events) table < 2 ^ 64
flat_in_time config opening events table small short =
    let state = state_of config opening events in
    let all : Small state = along config opening Small (small_opened config opening small)
    (λ before e h. small_after (state_of config opening before) e h) events in
    small_flat (longest_period (cols_of state.config.tables table)) state.rows
    (subst (λ (tables : List Shape). longest_period (cols_of tables table) < 2 ^ 32)
    (sym (same_tables config opening events)) short) all.rows

small_rows : (state : State) → IsSound state → (row : RowKey × Arrival)
    → IsSoundRow state.config state.moment row → IsSmall row
small_rows state sound row own =
    let now : state.moment ≤ LAST_MOMENT = sound.in_range in
    let before : row.1.arrived ≤ state.moment = own.arrived in (
      omega arith,
      small_life row.1.life (life_from state.config row.0.peer row.0.table row.0.key
          row.1.life row.1.cells own.fits),
    )

-- nor does one of a sound state
pub flat_if_sound : (state : State) (table : ℕ) → IsSound state
    → table_flat_from state table < 2 ^ 64
flat_if_sound state table sound =
    let short : longest_period (cols_of state.config.tables table) < 2 ^ 31 =
    periods_short state.config table sound.checked in
    small_flat (longest_period (cols_of state.config.tables table)) state.rows (omega arith)
    (every-map (IsSoundRow state.config state.moment) IsSmall (small_rows state sound)
    state.rows sound.rows)

-- ---- nor does a row of one, from 2^32 ms on
abbrev IsRecent : ℕ → RowKey × Arrival → Type 0
IsRecent moment row = (row.1.arrived ≤ moment) × (unwrap_or row.1.life 0 < 2 ^ 32)

recent_flat : (longest moment : ℕ) (rows : List (RowKey × Arrival)) → longest < 2 ^ 31
    → AllByRecursion (IsRecent moment) rows → flat_moment longest rows < moment + 2 ^ 32
recent_flat longest moment [] short h = omega arith
recent_flat longest moment (row ∷ rows) short h =
    let arrived : row.1.arrived ≤ moment = h.0.0 in
    let life : unwrap_or row.1.life 0 < 2 ^ 32 = h.0.1 in
    let rest : flat_moment longest rows < moment + 2 ^ 32 =
    recent_flat longest moment rows short h.1 in
    omega arith

recent_rows : (state : State) → IsSound state → AllByRecursion (IsRecent state.moment) state.rows
recent_rows state sound =
    every-map (IsSoundRow state.config state.moment) (IsRecent state.moment)
    (λ row own. (own.arrived, (small_rows state sound row own).1)) state.rows sound.rows

pub table_flat_soon : (state : State) (table : ℕ) → IsSound state
    → table_flat_from state table < state.moment + 2 ^ 32
table_flat_soon state table sound =
    recent_flat (longest_period (cols_of state.config.tables table)) state.moment state.rows
    (periods_short state.config table sound.checked) (recent_rows state sound)

pub key_flat_soon : (state : State) (table : ℕ) (key : List ℕ) → IsSound state
    → flat_moment (longest_period (cols_of state.config.tables table))
    (key_rows state.rows table key) < state.moment + 2 ^ 32
key_flat_soon state table key sound =
    recent_flat (longest_period (cols_of state.config.tables table)) state.moment
    (key_rows state.rows table key) (periods_short state.config table sound.checked)
    (every-filter (IsRecent state.moment) _ state.rows (recent_rows state sound))
