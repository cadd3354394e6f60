-- Events that change no answer.
use Rattle.std.proofs.Common.{◌≡◌, ◌≢◌, ◌⊎◌, ⊎_elim, inl, inr, ℕ, Bool, true, false, cond, ◌&&◌}
use Rattle.std.proofs.Common.{max, List, [], ◌∷◌, ◌++◌, Option, Some, T, refl, sym, ap, ◌∙◌, subst}
use Rattle.std.proofs.Common.{arith}
use Rattle.std.proofs.lemmas.Bool.{false_from_ne_true}
use Rattle.std.specs.List.{AllByRecursion, filter}
use Rattle.agg_types.specs.declared.config.Config.{Config}
use Rattle.agg_types.specs.declared.event.Event.{Event}
use Rattle.agg_types.specs.declared.event.What.{What}
use Rattle.agg_types.specs.declared.event.What.TheVariants.{Sit, Open, Put, Clear, AddFilter}
use Rattle.agg_types.specs.declared.event.What.TheVariants.{DropFilter, Moment, Leave}
use Rattle.agg_types.specs.declared.row_key.RowKey.{RowKey}
use Rattle.fleet_model.proofs.Dropping.{dropped-none}
use Rattle.fleet_model.proofs.Seats.{number_from}
use Rattle.fleet_model.specs.Answers.{keys_of, rows_of, set_at, summed}
use Rattle.fleet_model.specs.Laws.{AnswersAlike, AreLive, SaysNothing}
use Rattle.fleet_model.specs.Machine.{after, counts_now, happened, session_of, with_put, with_row}
use Rattle.fleet_model.specs.Moments.{is_live}
use Rattle.fleet_model.specs.Ranking.{ranked, ranking}
use Rattle.fleet_model.specs.Rows.{has_room, arrival_of}
use Rattle.fleet_model.specs.Seats.{is_number}
use Rattle.fleet_model.specs.State.{State}
use Rattle.fleet_model.specs.declared.arrival.Arrival.{Arrival}

-- what is answered comes from the configuration, the moment and the rows
alike : (s later : State) → later.config ≡ s.config → later.moment ≡ s.moment → later.rows ≡ s.rows
    → AnswersAlike s later
unfolding summed rows_of set_at ranked ranking keys_of
alike s later config moment rows =
    record {
      config = config;
      moment = moment;
      rows = rows;
      sums = λ table key i. summed (record {
        config = config i;
        configured = s.configured;
        moment = moment i;
        rows =
            rows i;
        sessions = s.sessions;
        seats = s.seats;
        next_seat = s.next_seat;
      }) table key;
      sets = λ filter t i. set_at (record {
        config = config i;
        configured = s.configured;
        moment = moment i;
        rows =
            rows i;
        sessions = s.sessions;
        seats = s.seats;
        next_seat = s.next_seat;
      }) filter t;
      rankings = λ rank i. ranked (record {
        config = config i;
        configured = s.configured;
        moment = moment i;
        rows =
            rows i;
        sessions = s.sessions;
        seats = s.seats;
        next_seat = s.next_seat;
      }) rank;
    }

all_stay : (t : ℕ) (rows : List (RowKey × Arrival)) → AllByRecursion (λ row. is_live t row.1 ≡ true)
    rows → filter (λ row. is_live t row.1) rows ≡ rows
all_stay t [] h = refl
all_stay t (row ∷ rows) h = ap (λ b. cond b (row ∷ filter (λ row. is_live t row.1) rows)
    (filter (λ row. is_live t row.1) rows)) h.0 ∙ ap (λ rest. row ∷ rest) (all_stay t rows h.1)

not_number : (o : Option ℕ) (seat : ℕ) → o ≢ Some seat → is_number o seat ≡ false
not_number o seat ne = false_from_ne_true (is_number o seat) (λ e. ne (number_from o seat e))

and_no : (a b : Bool) → (a ≡ false) ⊎ (b ≡ false) → (a && b) ≡ false
and_no true b h = ⊎_elim (λ e. absurd (subst T e tt)) (λ e. e) h
and_no false b h = refl

says_nothing : (s : State) (e : Event) (w : What) → AreLive s → SaysNothing s e.seat w
    → AnswersAlike s (happened s e w)
unfolding happened with_put
says_nothing s e Sit lives h = absurd h
says_nothing s e (Open peer) lives h = absurd h
says_nothing s e (Put peer table key life cells) lives h =
    let place : RowKey = record { table = table; key = key; peer = peer } in
    let arrival : Arrival = arrival_of s.config.tables table s.moment life cells in
    let no : (is_number (session_of s peer) e.seat && has_room s.config s.rows place life)
    ≡ false =
    and_no (is_number (session_of s peer) e.seat) (has_room s.config s.rows place life)
    (⊎_elim (λ ne. inl (not_number (session_of s peer) e.seat ne)) (λ full. inr full) h) in
    alike s _ refl refl (ap (λ b. cond b (with_row s.moment s.rows place arrival) s.rows) no)
says_nothing s e (Clear table sel) lives h = absurd h
says_nothing s e (AddFilter added) lives h =
    alike s _ (λ i. record s.config {
      filters =
          cond (h i) (s.config.filters ++ added ∷ []) s.config.filters;
    }) refl refl
says_nothing s e (DropFilter name) lives h =
    alike s _ (λ i. record s.config {
      filters = dropped-none s.configured name s.config.filters h i;
    }) refl refl
says_nothing s e (Moment told) lives h =
    let same : max s.moment told ≡ s.moment = omega arith in
    alike s _ refl same (ap (λ t. filter (λ row. is_live t row.1) s.rows) same
    ∙ all_stay s.moment s.rows lives)
says_nothing s e Leave lives h = absurd h

-- events that say nothing change no answer
pub after_nothing : (s : State) (e : Event) → AreLive s → SaysNothing s e.seat e.what
    → AnswersAlike s (after s e)
unfolding after
after_nothing s e lives h =
    elim (counts_now s e) as (λ b. AnswersAlike s (cond b (happened s e e.what) s)) [
      | true ↦
          says_nothing s e e.what lives h
      | false ↦ alike s s refl refl refl
    ]

-- a seat that leaves changes no answer
pub after_leave : (s : State) (e : Event) → e.what ≡ Leave → AnswersAlike s (after s e)
unfolding after happened
after_leave s e is =
    elim (counts_now s e) as (λ b. AnswersAlike s (cond b (happened s e e.what) s)) [
      | true ↦ subst (λ w. AnswersAlike s (happened s e w)) (sym is) (alike s _ refl refl refl)
      | false ↦ alike s s refl refl refl
    ]
