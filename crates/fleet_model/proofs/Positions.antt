-- A row is in force exactly where some event put it, it lives, and each later event passed by its
-- place.
use Rattle.std.proofs.Common.{◌≡◌, ℕ, ◌≤◌, ◌⊎◌, ⊎_elim, inl, inr, Bool, true, false, cond, not}
use Rattle.std.proofs.Common.{◌&&◌, max, List, [], ◌∷◌, ◌++◌, Option, None, Some, T, refl, sym, ap}
use Rattle.std.proofs.Common.{◌∙◌, subst, arith, append_assoc, le_refl}
use Rattle.std.proofs.lemmas.Bool.{and_parts, not-true}
use Rattle.std.proofs.lemmas.Cmp.{tied_itself}
use Rattle.std.proofs.lemmas.List.{append-nil, append_cancel_left}
use Rattle.std.proofs.lemmas.Option.{none-some, same_Some}
use Rattle.std.specs.BTreeMap.{insert_entry, is_at}
use Rattle.std.specs.Bool.{then_some}
use Rattle.std.specs.Cmp.{eq_by_cmp_equiv}
use Rattle.std.specs.FinMap.Entries.{is_sorted}
use Rattle.std.specs.List.{AllByRecursion}
use Rattle.std.specs.Map.{lookup, remove_entry}
use Rattle.std.specs.Ordering.{is_eq}
use Rattle.agg_types.specs.RowKey.{row_key_cmp}
use Rattle.agg_types.specs.declared.config.Config.{Config}
use Rattle.agg_types.specs.declared.event.Event.{Event}
use Rattle.agg_types.specs.declared.event.What.{What}
use Rattle.agg_types.specs.declared.event.What.TheVariants.{Sit, Open, Put, Clear, AddFilter}
use Rattle.agg_types.specs.declared.event.What.TheVariants.{DropFilter, Moment, Leave}
use Rattle.agg_types.specs.declared.row_key.RowKey.{RowKey}
use Rattle.fleet_model.proofs.Entries.{equal_from, keep, lookup-filter, lookup-insert, remove_is}
use Rattle.fleet_model.proofs.Falls.{lived_before}
use Rattle.fleet_model.proofs.InForce.{by_place-sorted, row_key_cmp_exact, row_key_cmp_total}
use Rattle.fleet_model.proofs.Order.{live, no_events}
use Rattle.fleet_model.proofs.Step.{one_more}
use Rattle.fleet_model.specs.Laws.{AreLive, IsInForce, passes_by, put_by}
use Rattle.fleet_model.specs.Machine.{after, counts_now, happened, opened, session_of, with_put}
use Rattle.fleet_model.specs.Machine.{with_row}
use Rattle.fleet_model.specs.Moments.{is_live}
use Rattle.fleet_model.specs.Rows.{clears_at, has_room, if_counted, arrival_of, puts_at, putter}
use Rattle.fleet_model.specs.Rows.{row_of, rows_in}
use Rattle.fleet_model.specs.Seats.{is_number}
use Rattle.fleet_model.specs.State.{State, state_of}
use Rattle.fleet_model.specs.Values.{same_place}
use Rattle.fleet_model.specs.declared.arrival.Arrival.{Arrival}

abbrev Rows : Type 0
Rows = List (RowKey × Arrival)

abbrev row_at : RowKey → Rows → Option Arrival
row_at place rows = lookup (is_at (row_key_cmp place)) rows

-- ---- one place after one event
-- the row that is put there, if it lives; else the older one, if it isn't cleared and lives
abbrev next_row : Option (RowKey × Arrival) → Bool → ℕ → RowKey → Option Arrival → Option Arrival
next_row None cleared t place old = cond cleared None (keep (is_live t) old)
next_row (Some row) cleared t place old =
    cond (same_place place row.0) (keep (is_live t) (Some row.1))
    (cond cleared None (keep (is_live t) old))

live_kept : (t : ℕ) (place : RowKey) (rows : Rows) → AllByRecursion (λ row. is_live t row.1 ≡ true)
    rows → keep (is_live t) (row_at place rows) ≡ row_at place rows
live_kept t place [] h = refl
live_kept t place (e ∷ es) h =
    elim (is_eq (row_key_cmp place e.0)) as
    (λ b. keep (is_live t) (cond b (Some e.1) (row_at place es))
    ≡ cond b (Some e.1) (row_at place es)) [
      | true ↦ ap (λ b. then_some b e.1) h.0
      | false ↦ live_kept t place es h.1
    ]

kept_unless : (gone : Bool) (t : ℕ) (o : Option Arrival) → keep (is_live t) o ≡ o
    → keep (λ _. not gone) o ≡ cond gone None (keep (is_live t) o)
kept_unless true t None h = refl
kept_unless true t (Some x) h = refl
kept_unless false t None h = refl
kept_unless false t (Some x) h = sym h

put_row : (t : ℕ) (rows : Rows) (place q : RowKey) (row : Arrival) → T (is_sorted row_key_cmp rows)
    → AllByRecursion (λ row. is_live t row.1 ≡ true) rows → row_at q (with_row t rows place row)
    ≡ next_row (Some (place, row)) false t q (row_at q rows)
unfolding with_row
put_row t rows place q row sorted lives =
    elim (is_live t row) as (λ b. row_at q (cond b (insert_entry row_key_cmp rows place row)
    (remove_entry (is_at (row_key_cmp place)) rows)) ≡ cond (same_place q place) (then_some b row)
    (keep (is_live t) (row_at q rows))) [
      | true ↦ lookup-insert row_key_cmp row_key_cmp_total row_key_cmp_exact q rows place row
          ∙ ap (cond (same_place q place) (Some row)) (sym (live_kept t q rows lives))
      | false ↦ ap (row_at q) (remove_is row_key_cmp row_key_cmp_total row_key_cmp_exact
          place rows sorted)
          ∙ lookup-filter row_key_cmp row_key_cmp_total row_key_cmp_exact q
          (λ row. not (is_eq (row_key_cmp place row.0))) rows sorted
          ∙ ap (λ b. keep (λ _. not b) (row_at q rows))
          ((eq_by_cmp_equiv row_key_cmp_total).symm place q)
          ∙ kept_unless (same_place q place) t (row_at q rows) (live_kept t q rows lives)
    ]

happened_at : (s : State) (e : Event) (w : What) (q : RowKey) → T (is_sorted row_key_cmp s.rows)
    → AreLive s → row_at q (happened s e w).rows
    ≡ next_row (row_of s.config (session_of s (putter w)) s.rows s.moment e w)
    (clears_at s.config s.rows s.moment w q) (happened s e w).moment q (row_at q s.rows)
unfolding happened row_of clears_at with_put
happened_at s e Sit q sorted lives = sym (live_kept s.moment q s.rows lives)
happened_at s e (Open peer) q sorted lives = sym (live_kept s.moment q s.rows lives)
happened_at s e (Put peer table key life cells) q sorted lives =
    let place : RowKey = record { table = table; key = key; peer = peer } in
    let arrival : Arrival = arrival_of s.config.tables table s.moment life cells in
    elim (is_number (session_of s peer) e.seat && has_room s.config s.rows place life) as
    (λ b. row_at q (cond b (with_row s.moment s.rows place arrival) s.rows)
    ≡ next_row (then_some b (place, arrival)) false s.moment q (row_at q s.rows)) [
      | true ↦ put_row s.moment s.rows place q arrival sorted lives
      | false ↦ sym (live_kept s.moment q s.rows lives)
    ]
happened_at s e (Clear table sel) q sorted lives =
    lookup-filter row_key_cmp row_key_cmp_total row_key_cmp_exact q
    (λ row. not (clears_at s.config s.rows s.moment (Clear table sel) row.0)) s.rows sorted
    ∙ kept_unless (clears_at s.config s.rows s.moment (Clear table sel) q) s.moment
    (row_at q s.rows) (live_kept s.moment q s.rows lives)
happened_at s e (AddFilter added) q sorted lives = sym (live_kept s.moment q s.rows lives)
happened_at s e (DropFilter name) q sorted lives = sym (live_kept s.moment q s.rows lives)
happened_at s e (Moment told) q sorted lives =
    lookup-filter row_key_cmp row_key_cmp_total row_key_cmp_exact q
    (λ row. is_live (max s.moment told) row.1) s.rows sorted
happened_at s e Leave q sorted lives = sym (live_kept s.moment q s.rows lives)

after_at : (s : State) (e : Event) (q : RowKey) → T (is_sorted row_key_cmp s.rows) → AreLive s
    → row_at q (after s e).rows ≡ next_row (put_by s e) (counts_now s e && clears_at s.config s.rows
    s.moment e.what q) (after s e).moment q (row_at q s.rows)
unfolding after
after_at s e q sorted lives =
    elim (counts_now s e) as (λ b. row_at q (cond b (happened s e e.what) s).rows
    ≡ next_row (if_counted b (row_of s.config (session_of s (putter e.what)) s.rows s.moment e
    e.what)) (b && clears_at s.config s.rows s.moment e.what q)
    (cond b (happened s e e.what) s).moment q (row_at q s.rows)) [
      | true ↦ happened_at s e e.what q sorted lives
      | false ↦ sym (live_kept s.moment q s.rows lives)
    ]

happened_grows : (s : State) (e : Event) (w : What) → s.moment ≤ (happened s e w).moment
unfolding happened
happened_grows s e Sit = le_refl s.moment
happened_grows s e (Open peer) = le_refl s.moment
happened_grows s e (Put peer table key life cells) = le_refl s.moment
happened_grows s e (Clear table sel) = le_refl s.moment
happened_grows s e (AddFilter added) = le_refl s.moment
happened_grows s e (DropFilter name) = le_refl s.moment
happened_grows s e (Moment told) = omega arith
happened_grows s e Leave = le_refl s.moment

moment_grows : (s : State) (e : Event) → s.moment ≤ (after s e).moment
unfolding after
moment_grows s e = elim (counts_now s e) as
    (λ b. s.moment ≤ (cond b (happened s e e.what) s).moment) [
      | true ↦ happened_grows s e e.what
      | false ↦ le_refl s.moment
    ]

-- ---- lists that end
nil_not_push : {X : Type 0} (ys : List X) (x : X) (zs : List X) → [] ≡ ys ++ x ∷ zs → ⊥
nil_not_push [] x zs e = cc
nil_not_push (y ∷ ys) x zs e = cc

-- a list that ends with e, split at x: x is that e, or stands before it
split_cases : {X : Type 0} (xs : List X) (e : X) (ys : List X) (x : X) (zs : List X)
    → xs ++ e ∷ [] ≡ ys ++ x ∷ zs → ((ys ≡ xs) × (x ≡ e))
    ⊎ ((some : List X) × (xs ≡ ys ++ x ∷ some))
split_cases [] e [] x zs is = let same : x ≡ e = cc in inl (refl, same)
split_cases [] e (y ∷ ys) x zs is = let rest : [] ≡ ys ++ x ∷ zs = cc in
    absurd (nil_not_push ys x zs rest)
split_cases (a ∷ xs) e [] x zs is = let same : a ≡ x = cc in inr (xs, ap (λ b. b ∷ xs) same)
split_cases (a ∷ xs) e (y ∷ ys) x zs is =
    let same : a ≡ y = cc in
    let rest : xs ++ e ∷ [] ≡ ys ++ x ∷ zs = cc in
    ⊎_elim
    (λ last. inl ((λ i. sym same i ∷ last.0 i), last.1))
    (λ inner. inr (inner.0, (λ i. same i ∷ inner.1 i)))
    (split_cases xs e ys x zs rest)

-- ---- all lists, one event after the other
from : (P : List Event → Type 0) → ((events : List Event) (e : Event) → P events
    → P (events ++ e ∷ [])) → (events later : List Event) → P events → P (events ++ later)
from P step events [] h = subst P (sym (append-nil events)) h
from P step events (e ∷ later) h =
    subst P (append_assoc events (e ∷ []) later)
    (from P step (events ++ e ∷ []) later (step events e h))

pub by_events : (P : List Event → Type 0) → P [] → ((events : List Event) (e : Event) → P events
    → P (events ++ e ∷ [])) → (events : List Event) → P events
by_events P start step events = from P step [] events start

rows_sorted : (config : Config) (opening : ℕ) (events : List Event)
    → T (is_sorted row_key_cmp (state_of config opening events).rows)
unfolding state_of rows_in
rows_sorted config opening events = by_place-sorted _

abbrev clears_in : State → Event → RowKey → Bool
clears_in s e q = counts_now s e && clears_at s.config s.rows s.moment e.what q

module _ (config : Config) (opening : ℕ) where
  abbrev left_by : List Event → State
  left_by events = state_of config opening events

  -- what is found at a place after one more event
  one_more_at : (events : List Event) (e : Event) (q : RowKey)
      → row_at q (left_by (events ++ e ∷ [])).rows ≡ next_row (put_by (left_by events) e)
      (clears_in (left_by events) e q) (left_by (events ++ e ∷ [])).moment q
      (row_at q (left_by events).rows)
  one_more_at events e q =
      let more = one_more config opening events e in
      ap (λ (s : State). row_at q s.rows) more
      ∙ after_at (left_by events) e q (rows_sorted config opening events)
      (live config opening events)
      ∙ ap (λ (s : State). next_row (put_by (left_by events) e) (clears_in (left_by events) e q)
      s.moment q (row_at q (left_by events).rows)) (sym more)

  moment_more : (events : List Event) (e : Event)
      → (left_by events).moment ≤ (left_by (events ++ e ∷ [])).moment
  moment_more events e = subst (λ (s : State). (left_by events).moment ≤ s.moment)
      (sym (one_more config opening events e)) (moment_grows (left_by events) e)

  -- a row that is found after one more event was put by it, or was found before, and the event
  -- passed by
  found_by : (events : List Event) (e : Event) (row : RowKey × Arrival)
      → row_at row.0 (left_by (events ++ e ∷ [])).rows ≡ Some row.1
      → (put_by (left_by events) e ≡ Some row) ⊎ ((row_at row.0 (left_by events).rows ≡ Some row.1)
      × (passes_by (left_by events) e row.0 ≡ true))
  found_by events e row h =
      cases (put_by (left_by events) e) (clears_in (left_by events) e row.0)
      (left_by (events ++ e ∷ [])).moment row (row_at row.0 (left_by events).rows)
      (sym (one_more_at events e row.0) ∙ h)
    where
      kept : (t : ℕ) (o : Option Arrival) (a : Arrival) → keep (is_live t) o ≡ Some a → o ≡ Some a
      kept t None a e = e
      kept t (Some x) a e = elim (is_live t x) as (λ b. then_some b x ≡ Some a → Some x ≡ Some a)
          [ true ↦ λ e. e | false ↦ λ e. cc ] e

      left : (cleared : Bool) (t : ℕ) (o : Option Arrival) (a : Arrival)
          → cond cleared None (keep (is_live t) o) ≡ Some a → (o ≡ Some a) × (not cleared ≡ true)
      left true t o a e = absurd (none-some a e)
      left false t o a e = (kept t o a e, refl)

      cases : (put : Option (RowKey × Arrival)) (cleared : Bool) (t : ℕ) (row : RowKey × Arrival)
          (old : Option Arrival) → next_row put cleared t row.0 old ≡ Some row.1 → (put ≡ Some row)
          ⊎ ((old ≡ Some row.1) × ((not (puts_at put row.0) && not cleared) ≡ true))
      cases None cleared t row old e = inr (left cleared t old row.1 e)
      cases (Some new) cleared t row old e =
          elim (same_place row.0 new.0) as (λ b. same_place row.0 new.0 ≡ b
          → cond b (keep (is_live t) (Some new.1)) (cond cleared None (keep (is_live t) old))
          ≡ Some row.1 → (Some new ≡ Some row)
          ⊎ ((old ≡ Some row.1) × ((not b && not cleared) ≡ true))) [
            | true ↦ λ here e.
                let place : row.0 ≡ new.0 = row_key_cmp_exact row.0 new.0 (equal_from _ here) in
                let arrival : new.1 ≡ row.1 = same_Some new.1 row.1 (kept t (Some new.1) row.1 e) in
                inl (λ i. Some (sym place i, arrival i))
            | false ↦ λ there e. inr (left cleared t old row.1 e)
          ] refl e

  nothing_found : (row : RowKey × Arrival) → row_at row.0 (left_by []).rows ≡ None
  unfolding opened
  nothing_found row = ap (λ (s : State). row_at row.0 s.rows) (no_events config opening)

  -- what is found lives
  found_live : (t : ℕ) (rows : Rows) (place : RowKey) (a : Arrival)
      → AllByRecursion (λ row. is_live t row.1 ≡ true) rows → row_at place rows ≡ Some a
      → is_live t a ≡ true
  found_live t rows place a h e = kept_live (is_live t a) a (ap (keep (is_live t)) (sym e)
      ∙ live_kept t place rows h ∙ e)
    where
      kept_live : (b : Bool) (a : Arrival) → then_some b a ≡ Some a → b ≡ true
      kept_live true a e = refl
      kept_live false a e = cc

  -- an event more, behind those that passed by a row in force
  passed_by_more : (events : List Event) (e : Event) (row : RowKey × Arrival)
      → IsInForce config opening events row → passes_by (left_by events) e row.0 ≡ true
      → is_live (left_by (events ++ e ∷ [])).moment row.1 ≡ true
      → IsInForce config opening (events ++ e ∷ []) row
  passed_by_more events e row was passes lives =
      record {
        before = was.before;
        put = was.put;
        later = was.later ++ e ∷ [];
        split = ap (λ es. es ++ e ∷ []) was.split
            ∙ append_assoc was.before (was.put ∷ was.later) (e ∷ []);
        taken = was.taken;
        lives = lives;
        passed_by = λ some x rest is. ⊎_elim
            (λ last. subst (λ x. passes_by (left_by (was.before ++ was.put ∷ some)) x row.0
            ≡ true) (sym last.1)
            (subst (λ es. passes_by (left_by es) e row.0 ≡ true) (was.split
            ∙ ap (λ es. was.before ++ was.put ∷ es) (sym last.0)) passes))
            (λ inner. was.passed_by some x inner.0 inner.1)
            (split_cases was.later e some x rest is);
      }

  pub in_force_from : (events : List Event) (row : RowKey × Arrival)
      → row_at row.0 (left_by events).rows ≡ Some row.1 → IsInForce config opening events row
  in_force_from =
      by_events (λ events. (row : RowKey × Arrival) → row_at row.0 (left_by events).rows
      ≡ Some row.1 → IsInForce config opening events row)
      (λ row h. absurd (none-some row.1 (sym (nothing_found row) ∙ h)))
      (λ events e was row h.
      let lives : is_live (left_by (events ++ e ∷ [])).moment row.1 ≡ true =
      found_live (left_by (events ++ e ∷ [])).moment (left_by (events ++ e ∷ [])).rows row.0
      row.1 (live config opening (events ++ e ∷ [])) h in
      ⊎_elim
      (λ put. record {
        before = events;
        put = e;
        later = [];
        split = refl;
        taken = put;
        lives = lives;
        passed_by = λ some x rest is. absurd (nil_not_push some x rest is);
      })
      (λ old. passed_by_more events e row (was row old.0) old.1 lives)
      (found_by events e row h))

  -- the events before the last one, where it isn't the one that put the row
  passed_by_less : (events : List Event) (e : Event) (row : RowKey × Arrival)
      (now : IsInForce config opening (events ++ e ∷ []) row) (some : List Event)
      → events ≡ now.before ++ now.put ∷ some → IsInForce config opening events row
      × (passes_by (left_by events) e row.0 ≡ true)
  passed_by_less events e row now some is =
      let whole : now.before ++ now.put ∷ now.later ≡ now.before ++ now.put ∷ (some ++ e ∷ []) =
      sym now.split ∙ ap (λ es. es ++ e ∷ []) is
      ∙ append_assoc now.before (now.put ∷ some) (e ∷ []) in
      let rest : now.put ∷ now.later ≡ now.put ∷ (some ++ e ∷ []) =
      append_cancel_left now.before (now.put ∷ now.later) (now.put ∷ (some ++ e ∷ [])) whole in
      let later : now.later ≡ some ++ e ∷ [] = cc in (
        record {
          before = now.before;
          put = now.put;
          later = some;
          split = is;
          taken = now.taken;
          lives = lived_before row.1.life row.1.arrived (left_by events).moment
              (left_by (events ++ e ∷ [])).moment (moment_more events e) now.lives;
          passed_by = λ front x back at. now.passed_by front x (back ++ e ∷ []) (later
              ∙ ap (λ es. es ++ e ∷ []) at ∙ append_assoc front (x ∷ back) (e ∷ []));
        },
        subst (λ es. passes_by (left_by es) e row.0 ≡ true) (sym is)
            (now.passed_by some e [] later),
      )

  next_put : (put : Option (RowKey × Arrival)) (cleared : Bool) (t : ℕ) (row : RowKey × Arrival)
      (old : Option Arrival) → put ≡ Some row → is_live t row.1 ≡ true
      → next_row put cleared t row.0 old ≡ Some row.1
  next_put put cleared t row old is lives =
      ap (λ o. next_row o cleared t row.0 old) is
      ∙ ap (λ o. cond (is_eq o) (keep (is_live t) (Some row.1))
      (cond cleared None (keep (is_live t) old))) (tied_itself row_key_cmp_total row.0)
      ∙ ap (λ b. then_some b row.1) lives

  next_passed : (put : Option (RowKey × Arrival)) (cleared : Bool) (t : ℕ) (row : RowKey × Arrival)
      (old : Option Arrival) → (not (puts_at put row.0) && not cleared) ≡ true → old ≡ Some row.1
      → is_live t row.1 ≡ true → next_row put cleared t row.0 old ≡ Some row.1
  next_passed None cleared t row old passes was lives =
      ap (λ c. cond c None (keep (is_live t) old)) (not-true cleared passes)
      ∙ ap (keep (is_live t)) was ∙ ap (λ b. then_some b row.1) lives
  next_passed (Some new) cleared t row old passes was lives =
      let parts = and_parts (not (same_place row.0 new.0)) (not cleared) passes in
      ap (λ b. cond b (keep (is_live t) (Some new.1)) (cond cleared None (keep (is_live t) old)))
      (not-true (same_place row.0 new.0) parts.0)
      ∙ ap (λ c. cond c None (keep (is_live t) old)) (not-true cleared parts.1)
      ∙ ap (keep (is_live t)) was
      ∙ ap (λ b. then_some b row.1) lives

  pub shown_from : (events : List Event) (row : RowKey × Arrival)
      → IsInForce config opening events row → row_at row.0 (left_by events).rows ≡ Some row.1
  shown_from =
      by_events (λ events. (row : RowKey × Arrival) → IsInForce config opening events row
      → row_at row.0 (left_by events).rows ≡ Some row.1)
      (λ row now. absurd (nil_not_push now.before now.put now.later now.split))
      (λ events e was row now.
      one_more_at events e row.0 ∙ ⊎_elim
      (λ last. next_put (put_by (left_by events) e) _ _ row _
      (subst (λ x. put_by (left_by events) x ≡ Some row) last.1
      (subst (λ es. put_by (left_by es) now.put ≡ Some row) last.0 now.taken)) now.lives)
      (λ inner.
      let before = passed_by_less events e row now inner.0 inner.1 in
      next_passed (put_by (left_by events) e) _ _ row _ before.1 (was row before.0) now.lives)
      (split_cases events e now.before now.put now.later now.split))
