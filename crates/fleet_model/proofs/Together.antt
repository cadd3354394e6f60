-- How many rows all peers hold together.
use Rattle.std.proofs.Common.{◌≡◌, ℕ, ◌+◌, ◌≤◌, ⊎_elim, Bool, true, false, cond, ◌&&◌, ◌||◌}
use Rattle.std.proofs.Common.{◌==◌, nat_lt, List, [], ◌∷◌, T, length, Option, None, Some, refl, sym}
use Rattle.std.proofs.Common.{ap, not, ◌∙◌, subst, arith}
use Rattle.std.proofs.lemmas.Bool.{and_parts, or_cases, ltb-true}
use Rattle.std.proofs.lemmas.Bool.Decides.{nat_tests}
use Rattle.std.specs.BTreeMap.{insert_entry, is_at}
use Rattle.std.specs.FinMap.Entries.{is_sorted}
use Rattle.std.specs.List.{count_by, filter, list_any}
use Rattle.std.specs.Map.{remove_entry}
use Rattle.std.specs.Ordering.{is_eq}
use Rattle.std.specs.Prelude.{IfSome}
use Rattle.agg_types.specs.RowKey.{row_key_cmp}
use Rattle.agg_types.specs.declared.config.Config.{Config}
use Rattle.agg_types.specs.declared.event.Event.{Event}
use Rattle.agg_types.specs.declared.event.What.{What}
use Rattle.agg_types.specs.declared.event.What.TheVariants.{Sit, Open, Put, Clear, AddFilter}
use Rattle.agg_types.specs.declared.event.What.TheVariants.{DropFilter, Moment, Leave}
use Rattle.agg_types.specs.declared.row_key.RowKey.{RowKey}
use Rattle.fleet_model.proofs.Entries.{remove_is}
use Rattle.fleet_model.proofs.InForce.{row_key_cmp_exact, row_key_cmp_total}
use Rattle.fleet_model.proofs.Runs.{along}
use Rattle.fleet_model.proofs.Sizes.{count-cons, count-filter, count-insert, count-replace}
use Rattle.fleet_model.proofs.Sizes.{rows_sorted}
use Rattle.fleet_model.specs.Laws.{IsWithinBound}
use Rattle.fleet_model.specs.Machine.{after, counts_now, happened, opened, session_of, with_put}
use Rattle.fleet_model.specs.Machine.{with_row}
use Rattle.fleet_model.specs.Moments.{is_live, lives}
use Rattle.fleet_model.specs.Rows.{arrival_of, has_room, held_rows, size_of, takes_more}
use Rattle.fleet_model.specs.Seats.{is_number}
use Rattle.fleet_model.specs.State.{State, state_of}
use Rattle.fleet_model.specs.declared.arrival.Arrival.{Arrival}

abbrev Rows : Type 0
Rows = List (RowKey × Arrival)

count_any : {X : Type 0} (xs : List X) → count_by (λ _. true) xs ≡ length xs
count_any [] = refl
count_any (x ∷ xs) =
    let front = count-cons (λ _. true) x xs in
    let rest = count_any xs in
    omega arith

-- ---- one row more, or fewer
inserted : (rows : Rows) (place : RowKey) (arrival : Arrival)
    → length (insert_entry row_key_cmp rows place arrival) ≤ 1 + length rows
inserted rows place arrival =
    let most = count-insert (λ _. true) rows place arrival in
    let new = count_any (insert_entry row_key_cmp rows place arrival) in
    let old = count_any rows in
    omega arith

replaced : (rows : Rows) (place : RowKey) (arrival : Arrival) → T (is_sorted row_key_cmp rows)
    → list_any (λ r. is_eq (row_key_cmp place r.0)) rows ≡ true
    → length (insert_entry row_key_cmp rows place arrival) ≡ length rows
replaced rows place arrival h there =
    sym (count_any (insert_entry row_key_cmp rows place arrival))
    ∙ count-replace (λ _. true) rows place arrival h there ∙ count_any rows

filtered : (q : RowKey × Arrival → Bool) (rows : Rows) → length (filter q rows) ≤ length rows
filtered q rows =
    let most = count-filter (λ _. true) q rows in
    let new = count_any (filter q rows) in
    let old = count_any rows in
    omega arith

removed : (rows : Rows) (place : RowKey) → T (is_sorted row_key_cmp rows)
    → length (remove_entry (is_at (row_key_cmp place)) rows) ≤ length rows
removed rows place h = subst (λ (rs : Rows). length rs ≤ length rows)
    (sym (remove_is row_key_cmp row_key_cmp_total row_key_cmp_exact place rows h))
    (filtered (λ r. not (is_eq (row_key_cmp place r.0))) rows)

-- ---- a row that is put
over_at_once : (life : Option ℕ) (t : ℕ) → is_number life 0 ≡ true → lives life t t ≡ false
over_at_once None t over = absurd (subst T (sym over) tt)
over_at_once (Some life) t over = grind (arith, nat_tests)

arrived_bounded : (most t : ℕ) (rows : Rows) (place : RowKey) (arrival : Arrival) (fewer : Bool)
    → T (is_sorted row_key_cmp rows) → arrival.arrived ≡ t → is_live t arrival ≡ true
    → (list_any (λ r. is_eq (row_key_cmp place r.0)) rows
    || (fewer && (is_number arrival.life 0 || takes_more (Some most) rows))) ≡ true
    → length rows ≤ most → length (insert_entry row_key_cmp rows place arrival) ≤ most
arrived_bounded most t rows place arrival fewer h arrives live room within =
    ⊎_elim
    (λ there. let same = replaced rows place arrival h there in omega arith)
    (λ new. ⊎_elim
    (λ over. absurd (subst T (sym live ∙ ap (λ a. lives arrival.life a t) arrives
    ∙ over_at_once arrival.life t over) tt))
    (λ more.
    let below = ltb-true (length rows) most more in
    let one = inserted rows place arrival in omega arith)
    (or_cases (is_number arrival.life 0) _ (and_parts fewer _ new).1))
    (or_cases (list_any (λ r. is_eq (row_key_cmp place r.0)) rows) _ room)

row_bounded : (bound : Option ℕ) (t : ℕ) (rows : Rows) (place : RowKey) (arrival : Arrival)
    (fewer : Bool) → T (is_sorted row_key_cmp rows) → arrival.arrived ≡ t
    → (list_any (λ r. is_eq (row_key_cmp place r.0)) rows
    || (fewer && (is_number arrival.life 0 || takes_more bound rows))) ≡ true
    → IfSome bound (λ most. length rows ≤ most)
    → IfSome bound (λ most. length (with_row t rows place arrival) ≤ most)
unfolding with_row
row_bounded None t rows place arrival fewer h arrives room within = tt
row_bounded (Some most) t rows place arrival fewer h arrives room within =
    elim (is_live t arrival) as (λ b. is_live t arrival ≡ b
    → length (cond b (insert_entry row_key_cmp rows place arrival)
    (remove_entry (is_at (row_key_cmp place)) rows)) ≤ most) [
      | true ↦ λ live. arrived_bounded most t rows place arrival fewer h arrives live room within
      | false ↦ λ over. let less = removed rows place h in omega arith
    ] refl

filter_bounded : (bound : Option ℕ) (q : RowKey × Arrival → Bool) (rows : Rows)
    → IfSome bound (λ most. length rows ≤ most)
    → IfSome bound (λ most. length (filter q rows) ≤ most)
filter_bounded None q rows within = tt
filter_bounded (Some most) q rows within = let fewer = filtered q rows in omega arith

-- ---- through each event
pub happened_bounded : (s : State) (e : Event) (w : What) → T (is_sorted row_key_cmp s.rows)
    → IsWithinBound s → IsWithinBound (happened s e w)
unfolding happened with_put has_room
happened_bounded s e Sit h within = within
happened_bounded s e (Open opened) h within = within
happened_bounded s e (Put from table key life cells) h within =
    let place : RowKey = record { table = table; key = key; peer = from } in
    let arrival : Arrival = arrival_of s.config.tables table s.moment life cells in
    elim (is_number (session_of s from) e.seat && has_room s.config s.rows place life) as
    (λ b. (is_number (session_of s from) e.seat && has_room s.config s.rows place life) ≡ b
    → IfSome s.config.rows
    (λ most. length (cond b (with_row s.moment s.rows place arrival) s.rows) ≤ most)) [
      | true ↦ λ taken. row_bounded s.config.rows s.moment s.rows place arrival
          (nat_lt (held_rows s.rows table from) (size_of s.config.tables table)) h refl
          (and_parts (is_number (session_of s from) e.seat) _ taken).1 within
      | false ↦ λ dropped. within
    ] refl
happened_bounded s e (Clear table sel) h within = filter_bounded s.config.rows _ s.rows within
happened_bounded s e (AddFilter added) h within = within
happened_bounded s e (DropFilter name) h within = within
happened_bounded s e (Moment told) h within = filter_bounded s.config.rows _ s.rows within
happened_bounded s e Leave h within = within

after_bounded : (s : State) (e : Event) → T (is_sorted row_key_cmp s.rows) → IsWithinBound s
    → IsWithinBound (after s e)
unfolding after
after_bounded s e h within = elim (counts_now s e) as
    (λ b. IsWithinBound (cond b (happened s e e.what) s)) [
      | true ↦ happened_bounded s e e.what h within
      | false ↦ within
    ]

none_in_force : (bound : Option ℕ) → IfSome bound (λ most. 0 ≤ most)
none_in_force None = tt
none_in_force (Some most) = omega arith

pub opened_bounded : (config : Config) (opening : ℕ) → IsWithinBound (opened config opening)
unfolding opened
opened_bounded config opening = none_in_force config.rows

-- all peers together never hold more rows than the bound
pub within_bound : (config : Config) (opening : ℕ) (events : List Event)
    → IsWithinBound (state_of config opening events)
within_bound config opening events =
    along config opening IsWithinBound (opened_bounded config opening)
    (λ before e. after_bounded (state_of config opening before) e
    (rows_sorted config opening before)) events
