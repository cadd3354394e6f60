-- Every state that a checked configuration comes to is sound.
use Rattle.std.proofs.Common.{◌≡◌, ℕ, ◌≤◌, Bool, true, false, cond, not, ◌&&◌, max, nat_lt}
use Rattle.std.proofs.Common.{List, [], ◌∷◌, ◌++◌, ◌+◌, ◌==◌, length, Option, None, Some, refl, sym}
use Rattle.std.proofs.Common.{ap, ◌∙◌, subst, arith}
use Rattle.std.proofs.lemmas.Bool.{and_from, and_parts}
use Rattle.std.proofs.lemmas.Bool.Decides.{nat_tests}
use Rattle.std.proofs.lemmas.Cmp.{nat_cmp_total}
use Rattle.std.proofs.lemmas.Map.Lookups.{exact_unsigned}
use Rattle.std.specs.BTreeMap.{insert_entry, is_at}
use Rattle.std.specs.List.{AllByRecursion, filter}
use Rattle.std.specs.List.Sorted.{IsStrictlySortedBy}
use Rattle.std.specs.Map.{keys_of, remove_entry}
use Rattle.std.specs.Option.{option_map_or}
use Rattle.std.specs.Ordering.{nat_cmp}
use Rattle.std.specs.Prelude.{slice_get}
use Rattle.agg_types.specs.Check.{config_faults}
use Rattle.agg_types.specs.Col.{is_rate}
use Rattle.agg_types.specs.Fits.{at_table, cell_fits, cells_fit, fits, key_fits, life_fits}
use Rattle.agg_types.specs.RowKey.{row_key_cmp}
use Rattle.agg_types.specs.declared.column.Col.{Col}
use Rattle.agg_types.specs.declared.config.Config.{Config}
use Rattle.agg_types.specs.declared.config.Shape.{Shape}
use Rattle.agg_types.specs.declared.event.Cell.{Cell}
use Rattle.agg_types.specs.declared.event.Cell.TheVariants.{Count, Rate}
use Rattle.agg_types.specs.declared.event.Event.{Event}
use Rattle.agg_types.specs.declared.event.What.{What}
use Rattle.agg_types.specs.declared.event.What.TheVariants.{Sit, Open, Put, Clear, AddFilter}
use Rattle.agg_types.specs.declared.event.What.TheVariants.{DropFilter, Moment, Leave}
use Rattle.agg_types.specs.declared.limits.TheConstants.{LAST_MOMENT, MOST_SEATS}
use Rattle.agg_types.specs.declared.row_key.RowKey.{RowKey}
use Rattle.fleet_model.proofs.Cells.{normalized_twice}
use Rattle.fleet_model.proofs.Checked.{checked-add}
use Rattle.fleet_model.proofs.Dropping.{checked-drop}
use Rattle.fleet_model.proofs.Every.{every-filter, every-insert, every-map, every-passes}
use Rattle.fleet_model.proofs.Every.{every-remove, ordered-filter, ordered-insert, ordered-remove}
use Rattle.fleet_model.proofs.Every.{sorted_from}
use Rattle.fleet_model.proofs.InForce.{row_key_cmp_exact, row_key_cmp_total}
use Rattle.fleet_model.proofs.Runs.{along}
use Rattle.fleet_model.proofs.Sizes.{happened_within}
use Rattle.fleet_model.proofs.Together.{happened_bounded, opened_bounded}
use Rattle.fleet_model.specs.Filters.{dropped, is_new}
use Rattle.fleet_model.specs.Normalized.{normalized_cells}
use Rattle.fleet_model.specs.Laws.{AreLive, IsOrdered, IsWithinBound, IsWithinSizes}
use Rattle.fleet_model.specs.Machine.{after, counts_now, happened, number_of, opened, session_of}
use Rattle.fleet_model.specs.Machine.{with_event, with_put, with_row}
use Rattle.fleet_model.specs.Moments.{is_live}
use Rattle.fleet_model.specs.Rows.{arrival_of, clears_at, has_room}
use Rattle.fleet_model.specs.Seats.{is_next, is_number}
use Rattle.fleet_model.specs.Sound.{IsSound, IsSoundRow}
use Rattle.fleet_model.specs.State.{State, state_of}
use Rattle.fleet_model.specs.Values.{cols_of}
use Rattle.fleet_model.specs.declared.arrival.Arrival.{Arrival}

abbrev Rows : Type 0
Rows = List (RowKey × Arrival)

-- ---- a row that is put
cells_kept_fit : (cols : List (Col × ℕ)) (cells : List Cell) → cells_fit cols cells ≡ true
    → cells_fit cols (normalized_cells cols cells) ≡ true
cells_kept_fit [] [] h = refl
cells_kept_fit [] (cell ∷ cells) h = cc
cells_kept_fit (col ∷ cols) [] h = cc
cells_kept_fit (col ∷ cols) (Count count ∷ cells) h =
    let parts = and_parts (cell_fits col.0 (Count count)) (cells_fit cols cells) h in
    and_from (cell_fits col.0 (Count count)) (cells_fit cols (normalized_cells cols cells)) parts.0
    (cells_kept_fit cols cells parts.1)
cells_kept_fit (col ∷ cols) (Rate elapsed cur prev ∷ cells) h =
    let parts = and_parts (is_rate col.0) (cells_fit cols cells) h in
    and_from (is_rate col.0) (cells_fit cols (normalized_cells cols cells)) parts.0
    (cells_kept_fit cols cells parts.1)

shape_fits : (shape : Option Shape) (key : List ℕ) (cells : List Cell)
    → option_map_or (λ s. key_fits s.kind key && cells_fit s.cols cells) shape false ≡ true
    → option_map_or (λ s. key_fits s.kind key
    && cells_fit s.cols (normalized_cells (option_map_or (λ s. s.cols) shape []) cells))
    shape false ≡ true
shape_fits None key cells h = cc
shape_fits (Some shape) key cells h =
    let parts = and_parts (key_fits shape.kind key) (cells_fit shape.cols cells) h in
    and_from _ _ parts.0 (cells_kept_fit shape.cols cells parts.1)

put_fits : (config : Config) (t peer table : ℕ) (key : List ℕ) (life : Option ℕ) (cells : List Cell)
    → fits config (Put peer table key life cells) ≡ true
    → fits config (Put peer table key life (normalized_cells (cols_of config.tables table) cells))
    ≡ true
put_fits config t peer table key life cells h =
    let parts = and_parts (nat_lt peer (length config.peers) && life_fits life)
    (at_table config.tables table (λ shape. key_fits shape.kind key
    && cells_fit shape.cols cells)) h in
    and_from _ _ parts.0 (shape_fits (slice_get config.tables table) key cells parts.1)

row_sound : (config : Config) (t peer table : ℕ) (key : List ℕ) (life : Option ℕ)
    (cells : List Cell) → fits config (Put peer table key life cells) ≡ true
    → IsSoundRow config t (
      record { table = table; key = key; peer = peer },
      arrival_of config.tables table t life cells,
    )
row_sound config t peer table key life cells h = record {
  fits = put_fits config t peer table key life cells h;
  kept = normalized_twice (cols_of config.tables table) cells;
  arrived = omega arith;
}

-- ---- rows as they come and go
record AreSound (config : Config) (t : ℕ) (rows : Rows) : Type 0 where
  ordered : IsStrictlySortedBy row_key_cmp (keys_of rows)
  live : AllByRecursion (λ row. is_live t row.1 ≡ true) rows
  each : AllByRecursion (IsSoundRow config t) rows

sound-filter : (config : Config) (t : ℕ) (p : RowKey × Arrival → Bool) (rows : Rows)
    → AreSound config t rows → AreSound config t (filter p rows)
sound-filter config t p rows h = record {
  ordered = ordered-filter row_key_cmp p rows h.ordered;
  live = every-filter (λ row. is_live t row.1 ≡ true) p rows h.live;
  each = every-filter (IsSoundRow config t) p rows h.each;
}

sound-put : (config : Config) (t : ℕ) (taken : Bool) (rows : Rows) (place : RowKey) (row : Arrival)
    → IsSoundRow config t (place, row) → AreSound config t rows
    → AreSound config t (cond taken (with_row t rows place row) rows)
unfolding with_row
sound-put config t false rows place row own h = h
sound-put config t true rows place row own h =
    elim (is_live t row) as (λ b. is_live t row ≡ b
    → AreSound config t (cond b (insert_entry row_key_cmp rows place row)
    (remove_entry (is_at (row_key_cmp place)) rows))) [
      | true ↦ λ live. record {
        ordered = ordered-insert row_key_cmp row_key_cmp_total row_key_cmp_exact rows place row
            h.ordered;
        live = every-insert (λ row. is_live t row.1 ≡ true) row_key_cmp row_key_cmp_exact rows place
            row h.live live;
        each = every-insert (IsSoundRow config t) row_key_cmp row_key_cmp_exact rows place
            row h.each own;
      }
      | false ↦ λ over. record {
        ordered = ordered-remove row_key_cmp row_key_cmp_total row_key_cmp_exact rows place
            h.ordered;
        live = every-remove (λ row. is_live t row.1 ≡ true) (is_at (row_key_cmp place)) rows h.live;
        each = every-remove (IsSoundRow config t) (is_at (row_key_cmp place)) rows h.each;
      }
    ] refl

-- what the clock leaves
sound-moment : (config : Config) (t later : ℕ) (rows : Rows) → t ≤ later → AreSound config t rows
    → AreSound config later (filter (λ row. is_live later row.1) rows)
sound-moment config t later rows h sound = record {
  ordered = ordered-filter row_key_cmp (λ row. is_live later row.1) rows sound.ordered;
  live = every-passes (λ row. is_live later row.1) rows;
  each = every-filter (IsSoundRow config later) (λ row. is_live later row.1) rows
      (every-map (IsSoundRow config t) (IsSoundRow config later)
      (λ row own. record {
        fits = own.fits;
        kept = own.kept;
        arrived =
            let before : row.1.arrived ≤ t = own.arrived in omega arith;
      }) rows sound.each);
}

-- ---- through each event
rows_are : (s : State) → IsSound s → AreSound s.config s.moment s.rows
rows_are s h = record { ordered = h.ordered.rows; live = h.live; each = h.rows }

abbrev Sorted : List (ℕ × ℕ) → Type 0
Sorted entries = IsStrictlySortedBy nat_cmp (keys_of entries)

numbers-insert : (entries : List (ℕ × ℕ)) (n m : ℕ) → Sorted entries
    → Sorted (insert_entry nat_cmp entries n m)
numbers-insert entries n m h = ordered-insert nat_cmp nat_cmp_total exact_unsigned entries n m h

sound_as : (s : State) → config_faults s.config ≡ [] → s.moment ≤ LAST_MOMENT
    → AreSound s.config s.moment s.rows → Sorted s.sessions → Sorted s.seats
    → IsWithinSizes s × IsWithinBound s → IsSound s
sound_as s checked in_range rows sessions seats within = record {
  checked = checked;
  in_range = in_range;
  ordered = record { rows = rows.ordered; sessions = sessions; seats = seats };
  live = rows.live;
  within_sizes = within.0;
  within_bound = within.1;
  rows = rows.each;
}

happened_sound : (s : State) (e : Event) (w : What) → fits s.config w ≡ true → IsSound s
    → IsWithinSizes (happened s e w) × IsWithinBound (happened s e w)
    → IsSound (happened s e w)
unfolding happened with_put
happened_sound s e Sit fit h within = sound_as (happened s e Sit) h.checked h.in_range
    (rows_are s h) h.ordered.sessions (numbers-insert s.seats e.seat (e.seq + 1) h.ordered.seats)
    within
happened_sound s e (Open peer) fit h within =
    sound_as (happened s e (Open peer)) h.checked h.in_range (rows_are s h)
    (numbers-insert s.sessions peer e.seat h.ordered.sessions)
    (numbers-insert s.seats e.seat (e.seq + 1) h.ordered.seats) within
happened_sound s e (Put peer table key life cells) fit h within =
    let place : RowKey = record { table = table; key = key; peer = peer } in
    sound_as (happened s e (Put peer table key life cells)) h.checked h.in_range
    (sound-put s.config s.moment (is_number (session_of s peer) e.seat && has_room s.config s.rows place
    life) s.rows place (arrival_of s.config.tables table s.moment life cells)
    (row_sound s.config s.moment peer table key life cells fit) (rows_are s h))
    h.ordered.sessions (numbers-insert s.seats e.seat (e.seq + 1) h.ordered.seats) within
happened_sound s e (Clear table sel) fit h within =
    sound_as (happened s e (Clear table sel)) h.checked h.in_range
    (sound-filter s.config s.moment
    (λ row. not (clears_at s.config s.rows s.moment (Clear table sel) row.0)) s.rows
    (rows_are s h))
    h.ordered.sessions (numbers-insert s.seats e.seat (e.seq + 1) h.ordered.seats) within
happened_sound s e (AddFilter added) fit h within =
    let longer : Config = record s.config {
      filters =
          cond (is_new s.config.filters added) (s.config.filters ++ added ∷ []) s.config.filters;
    } in
    let rows : AreSound longer s.moment s.rows = record {
      ordered = h.ordered.rows;
      live = h.live;
      each = every-map (IsSoundRow s.config s.moment) (IsSoundRow longer s.moment)
          (λ row own. record { fits = own.fits; kept = own.kept; arrived = own.arrived })
          s.rows h.rows;
    } in
    sound_as (happened s e (AddFilter added)) (checked-add s.config added fit h.checked) h.in_range
    rows h.ordered.sessions (numbers-insert s.seats e.seat (e.seq + 1) h.ordered.seats) within
happened_sound s e (DropFilter name) fit h within =
    let shorter : Config =
    record s.config { filters = dropped s.configured name s.config.filters } in
    let rows : AreSound shorter s.moment s.rows = record {
      ordered = h.ordered.rows;
      live = h.live;
      each = every-map (IsSoundRow s.config s.moment) (IsSoundRow shorter s.moment)
          (λ row own. record { fits = own.fits; kept = own.kept; arrived = own.arrived })
          s.rows h.rows;
    } in
    sound_as (happened s e (DropFilter name)) (checked-drop s.config s.configured name h.checked)
    h.in_range
    rows h.ordered.sessions (numbers-insert s.seats e.seat (e.seq + 1) h.ordered.seats) within
happened_sound s e (Moment told) fit h within =
    let small : told ≤ LAST_MOMENT = grind (arith, nat_tests) in
    let now : s.moment ≤ LAST_MOMENT = h.in_range in
    sound_as (happened s e (Moment told)) h.checked (omega arith)
    (sound-moment s.config s.moment (max s.moment told) s.rows (omega arith) (rows_are s h))
    h.ordered.sessions (numbers-insert s.seats e.seat (e.seq + 1) h.ordered.seats) within
happened_sound s e Leave fit h within =
    sound_as (happened s e Leave) h.checked h.in_range (rows_are s h)
    (ordered-filter nat_cmp (λ session. not (session.1 == e.seat)) s.sessions
    h.ordered.sessions)
    (ordered-remove nat_cmp nat_cmp_total exact_unsigned s.seats e.seat h.ordered.seats) within

-- an event keeps a state sound
pub sound_after : (s : State) (e : Event) → IsSound s → IsSound (after s e)
unfolding after counts_now
sound_after s e h =
    elim (counts_now s e) as (λ b. counts_now s e ≡ b → IsSound (cond b (happened s e e.what) s)) [
      | true ↦ λ counts. happened_sound s e e.what
          (and_parts (fits s.config e.what)
          (is_next e.what e.seat e.seq (nat_lt (length s.seats) MOST_SEATS) s.next_seat
          (number_of s e.seat)) counts).0 h (
            happened_within s e e.what (sorted_from row_key_cmp s.rows h.ordered.rows)
                h.within_sizes,
            happened_bounded s e e.what (sorted_from row_key_cmp s.rows h.ordered.rows)
                h.within_bound,
          )
      | false ↦ λ not. h
    ] refl

-- an opened fleet is sound
pub sound_opened : (config : Config) (opening : ℕ) → config_faults config ≡ []
    → opening ≤ LAST_MOMENT
    → IsSound (opened config opening)
unfolding opened IsStrictlySortedBy
sound_opened config opening checked small = record {
  checked = checked;
  in_range = small;
  ordered = record { rows = tt; sessions = tt; seats = tt };
  live = tt;
  within_sizes = λ table peer. omega arith;
  within_bound = opened_bounded config opening;
  rows = tt;
}

-- so each list of events leaves a sound state
pub sound_states : (config : Config) (opening : ℕ) (events : List Event) → config_faults config ≡ []
    → opening ≤ LAST_MOMENT → IsSound (state_of config opening events)
sound_states config opening events checked small =
    along config opening IsSound (sound_opened config opening checked small)
    (λ before e. sound_after (state_of config opening before) e) events
