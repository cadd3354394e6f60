-- What each event leaves of what kept verdicts rest on.
use Rattle.std.proofs.Common.{◌≡◌, ◌≢◌, ⊎_elim, inl, inr, ℕ, ◌≤◌, Bool, true, false, cond}
use Rattle.std.proofs.Common.{not, ◌&&◌, ◌==◌, List, [], max, refl, sym}
use Rattle.std.proofs.Common.{ap, ◌∙◌, subst, arith}
use Rattle.std.specs.List.{filter}
use Rattle.std.specs.Prelude.{◌⊎◌}
use Rattle.std.proofs.lemmas.Bool.{eqb-true}
use Rattle.agg_types.specs.declared.config.Filter.{Filter}
use Rattle.agg_types.specs.declared.event.Event.{Event}
use Rattle.agg_types.specs.declared.event.Select.{Select}
use Rattle.agg_types.specs.declared.event.What.{What}
use Rattle.agg_types.specs.declared.event.What.TheVariants.{Sit, Open, Put, Clear, AddFilter}
use Rattle.agg_types.specs.declared.event.What.TheVariants.{DropFilter, Moment, Leave}
use Rattle.agg_types.specs.declared.row_key.RowKey.{RowKey}
use Rattle.fleet_model.specs.Keys.{AreInOrder, Rows, holds, key_rows}
use Rattle.fleet_model.specs.Machine.{after, counts_now, happened, session_of, with_put, with_row}
use Rattle.fleet_model.specs.Rows.{arrival_of, clears_at, has_room}
use Rattle.fleet_model.specs.Seats.{is_number}
use Rattle.fleet_model.specs.Sound.{IsSound}
use Rattle.fleet_model.specs.State.{State}
use Rattle.fleet_model.specs.Values.{cols_of, same_key, selects}
use Rattle.fleet_model.specs.declared.arrival.Arrival.{Arrival}
use Rattle.fleet_model.proofs.KeyChanges.{holds-stays}
use Rattle.fleet_model.proofs.KeyRows.{clear-each, put-others}
use Rattle.book.specs.Verdicts.{ChangesTable, Follows}
use Rattle.book_frame.proofs.Chosen.{same_key-decides}

-- ---- what an event does
and_none : (b : Bool) → b && false ≡ false
and_none true = refl
and_none false = refl

other_table : (t table : ℕ) (b : Bool) → t ≢ table → (t == table) && b ≡ false
other_table t table b differs = by (t == table) refl
  where
    by : (c : Bool) → (t == table) ≡ c → (t == table) && b ≡ false
    by true e = absurd (differs (eqb-true t table e))
    by false e = ap (λ c. c && b) e

-- another key than one of a table
is_apart : (t table : ℕ) (a b : List ℕ) → (t ≢ table) ⊎ (a ≢ b)
    → (t == table) && same_key a b ≡ false
is_apart t table a b apart = ⊎_elim (other_table t table (same_key a b)) another apart
  where
    another : a ≢ b → (t == table) && same_key a b ≡ false
    another differs = by (same_key a b) refl
      where
        by : (c : Bool) → same_key a b ≡ c → (t == table) && same_key a b ≡ false
        by true e = absurd (differs ((same_key-decides a b).0 e))
        by false e = ap (λ c. (t == table) && c) e ∙ and_none (t == table)

turned : {X Y : Type 0} {a b : X} {c d : Y} → (a ≢ b) ⊎ (c ≢ d) → (b ≢ a) ⊎ (c ≢ d)
turned apart = ⊎_elim (λ h. inl (λ e. h (sym e))) (λ h. inr h) apart

put_apart : (state : State) (taken : Bool) (place : RowKey) (row : Arrival) → AreInOrder state.rows
    → (t : ℕ) (other : List ℕ) → (t ≢ place.table) ⊎ (other ≢ place.key)
    → key_rows (cond taken (with_row state.moment state.rows place row) state.rows) t other
    ≡ key_rows state.rows t other
put_apart state false place row ordered t other apart = refl
put_apart state true place row ordered t other apart =
    put-others state.moment state.rows place row t other ordered
    (is_apart place.table t other place.key (turned apart))

cleared_apart : (gone : List ℕ → Bool) (rows : Rows) (table t : ℕ) (other : List ℕ) → t ≢ table
    → key_rows (filter (λ row. not ((row.0.table == table) && gone row.0.key)) rows) t other
    ≡ key_rows rows t other
cleared_apart gone rows table t other apart =
    clear-each gone rows table t other
    ∙ ap (λ b. cond b [] (key_rows rows t other)) (other_table t table (gone other) apart)

cleared : (state : State) (e : Event) (table : ℕ) (sel : Select)
    → ChangesTable table state (happened state e (Clear table sel))
unfolding happened clears_at
cleared state e table sel = record {
  config = refl;
  moment = refl;
  others = λ t other apart. cleared_apart
      (selects (cols_of state.config.tables table) state.rows table state.moment sel)
      state.rows table t other apart;
}

counted_is : (state : State) (e : Event) (what : What) → e.what ≡ what → counts_now state e ≡ true
    → after state e ≡ happened state e what
unfolding after
counted_is state e what is counts =
    ap (λ b. cond b (happened state e e.what) state) counts ∙ ap (happened state e) is

done : (state : State) (e : Event) (what : What) → IsSound state → e.what ≡ what
    → counts_now state e ≡ true → Follows what state (happened state e what)
unfolding happened with_put
done state e Sit sound is counts = record { config = refl; moment = refl; rows = refl }
done state e (Open peer) sound is counts = record { config = refl; moment = refl; rows = refl }
done state e (Put peer table key life cells) sound is counts =
    let place : RowKey = record { table = table; key = key; peer = peer } in
    record {
      config = refl;
      moment = refl;
      others = λ t other apart. put_apart state
          (is_number (session_of state peer) e.seat
          && has_room state.config state.rows place life)
          place (arrival_of state.config.tables table state.moment life cells) sound.ordered.rows t
          other apart;
    }
done state e (Clear table sel) sound is counts = cleared state e table sel
done state e (AddFilter filtering) sound is counts = record {
  tables = refl;
  moment = refl;
  rows = refl;
  filters = refl;
}
done state e (DropFilter name) sound is counts = record {
  tables = refl;
  moment = refl;
  rows = refl;
  filters = refl;
}
done state e (Moment told) sound is counts = record {
  config = refl;
  moment = refl;
  holds = λ filtering key t since. foreseen filtering key t since;
}
  where
    foreseen : (filtering : Filter) (key : List ℕ) (t : ℕ) → max state.moment told ≤ t
        → holds (happened state e (Moment told)) filtering key t ≡ holds state filtering key t
    foreseen filtering key t since =
        subst (λ (s : State). holds s filtering key t ≡ holds state filtering key t)
        (counted_is state e (Moment told) is counts)
        (holds-stays state e told is filtering key t (omega arith) (omega arith))
done state e Leave sound is counts = record { config = refl; moment = refl; rows = refl }

-- one that doesn't count leaves all as it is
pub uncounted : (state : State) (e : Event) → counts_now state e ≡ false → after state e ≡ state
unfolding after
uncounted state e none = ap (λ b. cond b (happened state e e.what) state) none

pub follows : (state : State) (e : Event) → IsSound state → counts_now state e ≡ true
    → Follows e.what state (after state e)
follows state e sound counts = subst (Follows e.what state)
    (sym (counted_is state e e.what refl counts)) (done state e e.what sound refl counts)
