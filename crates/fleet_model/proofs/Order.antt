-- What a list of events leaves is in order, and each of its rows lives.
use Rattle.std.proofs.Common.{◌≡◌, ℕ, Bool, true, false, cond, ◌&&◌, List, [], ◌∷◌, length, Option}
use Rattle.std.proofs.Common.{None, Some, T, refl, ◌∙◌}
use Rattle.std.proofs.lemmas.Cmp.{nat_cmp_total}
use Rattle.std.proofs.lemmas.Map.Keys.{IsDistinct-from_sorted}
use Rattle.std.proofs.lemmas.Map.Lookups.{exact_unsigned}
use Rattle.std.specs.BTreeMap.{insert_entry}
use Rattle.std.specs.Bool.{then_some}
use Rattle.std.specs.FinMap.Entries.{below_all, is_sorted}
use Rattle.std.specs.List.{AllByRecursion, IsDistinct, cons_option, list_all, range_with_len}
use Rattle.std.specs.List.Sorted.{IsStrictlySortedBy}
use Rattle.std.specs.Map.{keys_of}
use Rattle.std.specs.Ordering.{is_lt, match_ordering, nat_cmp}
use Rattle.std.specs.declared.cmp.Ordering.{Ordering}
use Rattle.std.specs.declared.cmp.Ordering.TheVariants.{Less, Equal, Greater}
use Rattle.agg_types.specs.RowKey.{row_key_cmp}
use Rattle.agg_types.specs.declared.config.Config.{Config}
use Rattle.agg_types.specs.declared.event.Event.{Event}
use Rattle.agg_types.specs.declared.row_key.RowKey.{RowKey}
use Rattle.fleet_model.proofs.Bools.{first, less_from, second}
use Rattle.fleet_model.proofs.Entries.{gather, same_lookups}
use Rattle.fleet_model.proofs.InForce.{by_place-sorted}
use Rattle.fleet_model.proofs.Known.{found-known, is_among, known-sorted}
use Rattle.fleet_model.specs.Filters.{filters_in}
use Rattle.fleet_model.specs.History.{judged}
use Rattle.fleet_model.specs.Laws.{AreLive, IsOrdered}
use Rattle.fleet_model.specs.Machine.{opened}
use Rattle.fleet_model.specs.Moments.{is_live, now_of}
use Rattle.fleet_model.specs.Rows.{Judged, by_place, counted_of, if_in_force, in_force}
use Rattle.fleet_model.specs.Rows.{leaves_alone, rows_in}
use Rattle.fleet_model.specs.Seats.{known, number, seats_in, seats_of}
use Rattle.fleet_model.specs.Sessions.{session, sessions_in}
use Rattle.fleet_model.specs.State.{State, state_of}
use Rattle.fleet_model.specs.Values.{same_place}
use Rattle.fleet_model.specs.declared.arrival.Arrival.{Arrival}

-- ---- no events
no_session : (peer : ℕ) → session [] peer ≡ None
unfolding session
no_session peer = refl

both_none : {X : Type 0} (b : Bool) (o : Option X) → o ≡ None → cond b o None ≡ None
both_none true o e = e
both_none false o e = refl

no_sessions : (config : Config) → sessions_in config [] ≡ []
unfolding sessions_in
no_sessions config =
    let peers = range_with_len 0 (length config.peers) in
    same_lookups nat_cmp nat_cmp_total exact_unsigned (known (session []) peers) []
    (known-sorted (session []) peers) tt
    (λ q. found-known (session []) q peers
    ∙ both_none (is_among q peers) (session [] q) (no_session q))

pub no_events : (config : Config) (opening : ℕ) → state_of config opening [] ≡ opened config opening
unfolding state_of opened judged counted_of rows_in by_place in_force now_of seats_in seats_of
    known filters_in
no_events config opening = λ i. record {
  config = config;
  configured = length config.filters;
  moment = opening;
  rows = [];
  sessions =
      no_sessions config i;
  seats = [];
  next_seat = 0;
}

-- ---- the order
module _ {K X : Type 0} (R : K → K → Ordering) where
  below_keys : (x : K) (es : List (K × X)) → T (below_all R x es)
      → AllByRecursion (λ y. R x y ≡ Less) (keys_of es)
  below_keys x [] h = tt
  below_keys x (e ∷ es) h = (less_from (R x e.0) (first _ _ h), below_keys x es (second _ _ h))

  pub sorted_keys : (es : List (K × X)) → T (is_sorted R es) → IsStrictlySortedBy R (keys_of es)
  unfolding IsStrictlySortedBy
  sorted_keys [] h = tt
  sorted_keys (e ∷ es) h = (below_keys e.0 es (first _ _ h), sorted_keys es (second _ _ h))

pub ordered : (config : Config) (opening : ℕ) (events : List Event)
    → IsOrdered (state_of config opening events)
unfolding state_of rows_in sessions_in seats_in
ordered config opening events =
    let history = judged config opening events in
    let counted = counted_of history in
    record {
      rows = sorted_keys row_key_cmp (by_place (in_force (now_of opening counted) history))
          (by_place-sorted (in_force (now_of opening counted) history));
      sessions = sorted_keys nat_cmp
          (known (session counted) (range_with_len 0 (length config.peers)))
          (known-sorted (session counted) (range_with_len 0 (length config.peers)));
      seats = sorted_keys nat_cmp (known (number counted) (seats_of counted))
          (known-sorted (number counted) (seats_of counted));
    }

pub distinct : (state : State) → IsOrdered state → IsDistinct same_place (keys_of state.rows)
distinct state h = IsDistinct-from_sorted row_key_cmp (keys_of state.rows) h.rows

-- ---- rows live
abbrev Live : ℕ → List (RowKey × Arrival) → Type 0
Live t rows = AllByRecursion (λ row. is_live t row.1 ≡ true) rows

pub live-insert : (t : ℕ) (es : List (RowKey × Arrival)) (place : RowKey) (arrival : Arrival)
    → Live t es → is_live t arrival ≡ true → Live t (insert_entry row_key_cmp es place arrival)
live-insert t [] place arrival h live = (live, tt)
live-insert t (e ∷ es) place arrival h live =
    elim (row_key_cmp place e.0) as (λ r. Live t (match_ordering r ((place, arrival) ∷ e ∷ es)
    ((e.0, arrival) ∷ es) (e ∷ insert_entry row_key_cmp es place arrival))) [
      | Less ↦ (live, h)
      | Equal ↦ (live, h.1)
      | Greater ↦ (h.0, live-insert t es place arrival h.1 live)
    ]

live-gather : (t : ℕ) (es xs : List (RowKey × Arrival)) → Live t es → Live t xs
    → Live t (gather row_key_cmp es xs)
live-gather t es [] h live = h
live-gather t es (x ∷ xs) h live = live-gather t (insert_entry row_key_cmp es x.0 x.1) xs
    (live-insert t es x.0 x.1 h live.0) live.1

live-one : (t : ℕ) (later : List Judged) (xs : List (RowKey × Arrival))
    (row : Option (RowKey × Arrival)) → Live t xs → Live t (cons_option (if_in_force t later row)
    xs)
unfolding if_in_force
live-one t later xs None h = h
live-one t later xs (Some row) h =
    elim (is_live t row.1) as (λ b. is_live t row.1 ≡ b
    → Live t (cons_option (then_some (b && list_all (leaves_alone row.0) later) row) xs)) [
      | true ↦ λ live. elim (list_all (leaves_alone row.0) later) as
          (λ b. Live t (cons_option (then_some b row) xs)) [ true ↦ (live, h) | false ↦ h ]
      | false ↦ λ live. h
    ] refl

live-in_force : (t : ℕ) (h : List Judged) → Live t (in_force t h)
unfolding in_force
live-in_force t [] = tt
live-in_force t (j ∷ later) = live-one t later (in_force t later) j.row (live-in_force t later)

pub live : (config : Config) (opening : ℕ) (events : List Event)
    → AreLive (state_of config opening events)
unfolding state_of rows_in by_place
live config opening events =
    let history = judged config opening events in
    let t = now_of opening (counted_of history) in
    live-gather t [] (in_force t history) tt (live-in_force t history)
