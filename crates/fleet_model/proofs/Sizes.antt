-- How many rows a peer holds of a table.
use Rattle.std.proofs.Common.{◌≡◌, ℕ, ◌+◌, ◌<◌, ◌≤◌, ⊎_elim, Bool, true, false, cond, not, ◌&&◌}
use Rattle.std.proofs.Common.{◌||◌, ◌==◌, nat_lt, List, [], ◌∷◌, T, refl, sym, ap, ◌∙◌, subst}
use Rattle.std.proofs.Common.{arith}
use Rattle.std.proofs.lemmas.Bool.{and_parts, eqb-true, or_cases, ltb-true}
use Rattle.std.proofs.lemmas.List.Sums.{sum_by-cons}
use Rattle.std.specs.BTreeMap.{insert_entry, is_at}
use Rattle.std.specs.FinMap.Entries.{below_all, is_sorted}
use Rattle.std.specs.List.{count_by, filter, list_any}
use Rattle.std.specs.Map.{remove_entry}
use Rattle.std.specs.Ordering.{is_eq, is_lt, match_ordering}
use Rattle.std.specs.declared.cmp.Ordering.{Ordering}
use Rattle.std.specs.declared.cmp.Ordering.TheVariants.{Less, Equal, Greater}
use Rattle.agg_types.specs.RowKey.{row_key_cmp}
use Rattle.agg_types.specs.declared.config.Config.{Config}
use Rattle.agg_types.specs.declared.event.Event.{Event}
use Rattle.agg_types.specs.declared.event.What.{What}
use Rattle.agg_types.specs.declared.event.What.TheVariants.{Sit, Open, Put, Clear, AddFilter}
use Rattle.agg_types.specs.declared.event.What.TheVariants.{DropFilter, Moment, Leave}
use Rattle.agg_types.specs.declared.row_key.RowKey.{RowKey}
use Rattle.fleet_model.proofs.Bools.{first, less_from, second}
use Rattle.fleet_model.proofs.Entries.{remove_is}
use Rattle.fleet_model.proofs.InForce.{by_place-sorted, row_key_cmp_exact, row_key_cmp_total}
use Rattle.fleet_model.proofs.Runs.{along}
use Rattle.fleet_model.specs.Laws.{IsWithinSizes}
use Rattle.fleet_model.specs.Machine.{after, counts_now, happened, opened, session_of, with_put}
use Rattle.fleet_model.specs.Machine.{with_row}
use Rattle.fleet_model.specs.Moments.{is_live}
use Rattle.fleet_model.specs.Rows.{has_room, arrival_of, held_rows, rows_in, size_of, takes_more}
use Rattle.fleet_model.specs.Seats.{is_number}
use Rattle.fleet_model.specs.State.{State, state_of}
use Rattle.fleet_model.specs.Values.{same_place}
use Rattle.fleet_model.specs.declared.arrival.Arrival.{Arrival}

abbrev Rows : Type 0
Rows = List (RowKey × Arrival)

pub count-cons : {X : Type 0} (p : X → Bool) (x : X) (xs : List X)
    → count_by p (x ∷ xs) ≡ cond (p x) 1 0 + count_by p xs
count-cons p x xs = sum_by-cons (λ x. cond (p x) 1 0) x xs

-- fewer rows stay
pub count-filter : {X : Type 0} (p q : X → Bool) (xs : List X)
    → count_by p (filter q xs) ≤ count_by p xs
count-filter p q [] = omega arith
count-filter p q (x ∷ xs) =
    let rest = count-filter p q xs in
    let whole = count-cons p x xs in
    elim (q x) as (λ b. count_by p (cond b (x ∷ filter q xs) (filter q xs)) ≤ count_by p (x ∷ xs)) [
      | true ↦ let kept = count-cons p x (filter q xs) in omega arith
      | false ↦ omega arith
    ]

-- one row more at most
pub count-insert : (q : RowKey → Bool) (rows : Rows) (place : RowKey) (arrival : Arrival)
    → count_by (λ r. q r.0) (insert_entry row_key_cmp rows place arrival) ≤ cond (q place) 1 0 +
    count_by (λ r. q r.0) rows
count-insert q [] place arrival = let single = count-cons (λ (r : RowKey × Arrival). q r.0) (
  place,
  arrival,
) [] in omega arith
count-insert q (e ∷ es) place arrival =
    let rest = count-insert q es place arrival in
    let whole = count-cons (λ (r : RowKey × Arrival). q r.0) e es in
    elim (row_key_cmp place e.0) as (λ r. count_by (λ r. q r.0)
    (match_ordering r ((place, arrival) ∷ e ∷ es) ((e.0, arrival) ∷ es)
    (e ∷ insert_entry row_key_cmp es place arrival)) ≤ cond (q place) 1 0 + count_by
    (λ r. q r.0) (e ∷ es)) [
      | Less ↦ let front = count-cons (λ (r : RowKey × Arrival). q r.0) (place, arrival) (e ∷ es)
          in omega arith
      | Equal ↦ let front = count-cons (λ (r : RowKey × Arrival). q r.0) (e.0, arrival) es
          in omega arith
      | Greater ↦ let front = count-cons (λ (r : RowKey × Arrival). q r.0) e
          (insert_entry row_key_cmp es place arrival) in omega arith
    ]

none_above : (place x : RowKey) (rows : Rows) → row_key_cmp place x ≡ Less
    → T (below_all row_key_cmp x rows) → list_any (λ r. is_eq (row_key_cmp place r.0)) rows ≡ false
none_above place x [] less h = refl
none_above place x (e ∷ es) less h =
    (λ i. is_eq (row_key_cmp_total.trans place x e.0 less (less_from _ (first _ _ h)) i)
    || list_any (λ r. is_eq (row_key_cmp place r.0)) es)
    ∙ none_above place x es less (second _ _ h)

-- no row more where the place has one
pub count-replace : (q : RowKey → Bool) (rows : Rows) (place : RowKey) (arrival : Arrival)
    → T (is_sorted row_key_cmp rows) → list_any (λ r. is_eq (row_key_cmp place r.0)) rows ≡ true
    → count_by (λ r. q r.0) (insert_entry row_key_cmp rows place arrival) ≡ count_by (λ r. q r.0)
    rows
count-replace q [] place arrival h there = absurd (subst T (sym there) tt)
count-replace q (e ∷ es) place arrival h there =
    let whole = count-cons (λ (r : RowKey × Arrival). q r.0) e es in
    elim (row_key_cmp place e.0) as (λ o. row_key_cmp place e.0 ≡ o
    → (is_eq o || list_any (λ r. is_eq (row_key_cmp place r.0)) es) ≡ true
    → count_by (λ r. q r.0) (match_ordering o ((place, arrival) ∷ e ∷ es) ((e.0, arrival) ∷ es)
    (e ∷ insert_entry row_key_cmp es place arrival)) ≡ count_by (λ r. q r.0) (e ∷ es)) [
      | Less ↦ λ less there. absurd (subst T (sym there
          ∙ none_above place e.0 es less (first _ _ h)) tt)
      | Equal ↦ λ same there. count-cons (λ (r : RowKey × Arrival). q r.0) (e.0, arrival) es
          ∙ sym whole
      | Greater ↦ λ more there. count-cons (λ (r : RowKey × Arrival). q r.0) e
          (insert_entry row_key_cmp es place arrival)
          ∙ ap (λ n. cond (q e.0) 1 0 + n) (count-replace q es place arrival (second _ _ h) there)
          ∙ sym whole
    ] refl there

-- ---- through each event
room_of_size : (there fewer more : Bool) → (there || (fewer && more)) ≡ true
    → (there || fewer) ≡ true
room_of_size true fewer more h = refl
room_of_size false true more h = refl
room_of_size false false more h = h

put_within : (size_at : ℕ → ℕ) (rows : Rows) (place : RowKey) (arrival : Arrival)
    → T (is_sorted row_key_cmp rows)
    → (list_any (λ r. is_eq (row_key_cmp place r.0)) rows
    || nat_lt (count_by (λ r. (r.0.table == place.table) && (r.0.peer == place.peer)) rows)
    (size_at place.table)) ≡ true → (table peer : ℕ)
    → count_by (λ r. (r.0.table == table) && (r.0.peer == peer)) rows ≤ size_at table
    → count_by (λ r. (r.0.table == table) && (r.0.peer == peer))
    (insert_entry row_key_cmp rows place arrival) ≤ size_at table
put_within size_at rows place arrival h room table peer within =
    ⊎_elim
    (λ there. let same = count-replace (λ p. (p.table == table) && (p.peer == peer)) rows place
    arrival h there in omega arith)
    (λ fewer. let most = count-insert (λ p. (p.table == table) && (p.peer == peer)) rows
    place arrival in
    let free = ltb-true (count_by (λ (r : RowKey × Arrival). (r.0.table == place.table)
    && (r.0.peer == place.peer)) rows) (size_at place.table) fewer in
    elim ((place.table == table) && (place.peer == peer)) as
    (λ b. ((place.table == table) && (place.peer == peer)) ≡ b
    → count_by (λ r. (r.0.table == table) && (r.0.peer == peer))
    (insert_entry row_key_cmp rows place arrival) ≤ cond b 1 0 + count_by
    (λ r. (r.0.table == table) && (r.0.peer == peer)) rows
    → count_by (λ r. (r.0.table == table) && (r.0.peer == peer))
    (insert_entry row_key_cmp rows place arrival) ≤ size_at table) [
      | true ↦ λ its more.
          let parts = and_parts (place.table == table) (place.peer == peer) its in
          let tables : place.table ≡ table = eqb-true place.table table parts.0 in
          let peers : place.peer ≡ peer = eqb-true place.peer peer parts.1 in
          let here : count_by (λ (r : RowKey × Arrival). (r.0.table == table) && (r.0.peer == peer))
          rows < size_at table =
          subst (λ n. count_by (λ (r : RowKey × Arrival). (r.0.table == n) && (r.0.peer == peer))
          rows < size_at n) tables
          (subst (λ n. count_by (λ (r : RowKey × Arrival). (r.0.table == place.table)
          && (r.0.peer == n)) rows < size_at place.table) peers free) in
          omega arith
      | false ↦ λ other more. omega arith
    ] refl most)
    (or_cases (list_any (λ r. is_eq (row_key_cmp place r.0)) rows) _ room)

row_within : (t : ℕ) (size_at : ℕ → ℕ) (rows : Rows) (place : RowKey) (arrival : Arrival)
    → T (is_sorted row_key_cmp rows)
    → (list_any (λ r. is_eq (row_key_cmp place r.0)) rows
    || nat_lt (count_by (λ r. (r.0.table == place.table) && (r.0.peer == place.peer)) rows)
    (size_at place.table)) ≡ true → (table peer : ℕ)
    → count_by (λ r. (r.0.table == table) && (r.0.peer == peer)) rows ≤ size_at table
    → count_by (λ r. (r.0.table == table) && (r.0.peer == peer)) (with_row t rows place arrival)
    ≤ size_at table
unfolding with_row
row_within t size_at rows place arrival h room table peer within =
    elim (is_live t arrival) as (λ b. count_by (λ r. (r.0.table == table) && (r.0.peer == peer))
    (cond b (insert_entry row_key_cmp rows place arrival)
    (remove_entry (is_at (row_key_cmp place)) rows)) ≤ size_at table) [
      | true ↦ put_within size_at rows place arrival h room table peer within
      | false ↦
          let left : count_by (λ (r : RowKey × Arrival). (r.0.table == table) && (r.0.peer == peer))
          (remove_entry (is_at (row_key_cmp place)) rows) ≤ count_by
          (λ (r : RowKey × Arrival). (r.0.table == table) && (r.0.peer == peer)) rows =
          subst (λ (rs : Rows). count_by (λ (r : RowKey × Arrival). (r.0.table == table)
          && (r.0.peer == peer)) rs ≤ count_by (λ (r : RowKey × Arrival). (r.0.table == table)
          && (r.0.peer == peer)) rows) (sym (remove_is row_key_cmp row_key_cmp_total
          row_key_cmp_exact place rows h))
          (count-filter (λ (r : RowKey × Arrival). (r.0.table == table) && (r.0.peer == peer))
          (λ r. not (is_eq (row_key_cmp place r.0))) rows) in
          omega arith
    ]

filter_within : (size : ℕ) (p q : RowKey × Arrival → Bool) (rows : Rows) → count_by p rows ≤ size
    → count_by p (filter q rows) ≤ size
filter_within size p q rows within = let fewer = count-filter p q rows in omega arith

pub happened_within : (s : State) (e : Event) (w : What) → T (is_sorted row_key_cmp s.rows)
    → IsWithinSizes s → IsWithinSizes (happened s e w)
unfolding happened with_put has_room
happened_within s e Sit h within table peer = within table peer
happened_within s e (Open opened) h within table peer = within table peer
happened_within s e (Put from in_table key life cells) h within table peer =
    let place : RowKey = record { table = in_table; key = key; peer = from } in
    let arrival : Arrival = arrival_of s.config.tables in_table s.moment life cells in
    elim (is_number (session_of s from) e.seat && has_room s.config s.rows place life) as
    (λ b. (is_number (session_of s from) e.seat && has_room s.config s.rows place life) ≡ b
    → count_by (λ r. (r.0.table == table) && (r.0.peer == peer))
    (cond b (with_row s.moment s.rows place arrival) s.rows) ≤ size_of s.config.tables table) [
      | true ↦ λ taken. row_within s.moment (size_of s.config.tables) s.rows place arrival h
          (room_of_size (list_any (λ r. same_place place r.0) s.rows)
          (nat_lt (held_rows s.rows in_table from) (size_of s.config.tables in_table))
          (is_number life 0 || takes_more s.config.rows s.rows)
          (and_parts (is_number (session_of s from) e.seat) _ taken).1)
          table peer (within table peer)
      | false ↦ λ dropped. within table peer
    ] refl
happened_within s e (Clear in_table sel) h within table peer =
    filter_within (size_of s.config.tables table) (λ r. (r.0.table == table) && (r.0.peer == peer))
    _ s.rows (within table peer)
happened_within s e (AddFilter added) h within table peer = within table peer
happened_within s e (DropFilter name) h within table peer = within table peer
happened_within s e (Moment told) h within table peer =
    filter_within (size_of s.config.tables table) (λ r. (r.0.table == table) && (r.0.peer == peer))
    _ s.rows (within table peer)
happened_within s e Leave h within table peer = within table peer

pub after_within : (s : State) (e : Event) → T (is_sorted row_key_cmp s.rows) → IsWithinSizes s
    → IsWithinSizes (after s e)
unfolding after
after_within s e h within = elim (counts_now s e) as
    (λ b. IsWithinSizes (cond b (happened s e e.what) s)) [
      | true ↦
          happened_within s e e.what h within
      | false ↦ within
    ]

pub rows_sorted : (config : Config) (opening : ℕ) (events : List Event)
    → T (is_sorted row_key_cmp (state_of config opening events).rows)
unfolding state_of rows_in
rows_sorted config opening events = by_place-sorted _

none_held : (config : Config) (opening : ℕ) → IsWithinSizes (opened config opening)
unfolding opened
none_held config opening table peer = omega arith

-- a peer never holds more rows of a table than the table's size
pub within_sizes : (config : Config) (opening : ℕ) (events : List Event)
    → IsWithinSizes (state_of config opening events)
within_sizes config opening events =
    along config opening IsWithinSizes (none_held config opening)
    (λ before e. after_within (state_of config opening before) e
    (rows_sorted config opening before)) events
