-- The filters that stand: those that were configured, and of the added ones the first of each name,
-- while there is room, until they are dropped.
use Rattle.std.proofs.Common.{◌≡◌, ℕ, ◌+◌, ◌-◌, ◌<◌, ◌≤◌, Bool, true, false, cond, not, ◌&&◌}
use Rattle.std.proofs.Common.{filter, nat_lt, true≢false}
use Rattle.std.proofs.Common.{List, [], ◌∷◌, ◌++◌, length, take, suc, append_assoc, refl, sym, ap}
use Rattle.std.proofs.Common.{◌∙◌, arith}
use Rattle.std.proofs.lemmas.Bool.Decides.{nat_tests}
use Rattle.std.proofs.lemmas.List.{append-nil, length-append, length-take, take-append-le, take_all}
use Rattle.std.proofs.lemmas.List.Sums.{fold-append}
use Rattle.std.specs.List.{cons_option, fold, list_any}
use Rattle.std.specs.Str.{bytes_eq}
use Rattle.agg_types.specs.declared.config.Config.{Config}
use Rattle.agg_types.specs.declared.config.Filter.{Filter}
use Rattle.agg_types.specs.declared.event.Event.{Event}
use Rattle.agg_types.specs.declared.event.What.{What}
use Rattle.agg_types.specs.declared.event.What.TheVariants.{Sit, Open, Put, Clear, AddFilter}
use Rattle.agg_types.specs.declared.event.What.TheVariants.{DropFilter, Moment, Leave}
use Rattle.agg_types.specs.declared.limits.TheConstants.{MOST_FILTERS}
use Rattle.fleet_model.proofs.Bools.{and_no}
use Rattle.fleet_model.proofs.Dropping.{gone, one-fewer, or_left, or_right, others-stay}
use Rattle.fleet_model.proofs.Dropping.{take-dropped}
use Rattle.fleet_model.proofs.Step.{counts_same}
use Rattle.fleet_model.specs.Filters.{added_by, added_in, filters_after, filters_in, first_named}
use Rattle.fleet_model.specs.Filters.{is_added, is_drop, is_named, is_new}
use Rattle.fleet_model.specs.History.{judged}
use Rattle.fleet_model.specs.Machine.{after, counts_now, happened}
use Rattle.fleet_model.specs.Rows.{counted_of, rows_in}
use Rattle.fleet_model.specs.Seats.{counts}
use Rattle.fleet_model.specs.Sound.{IsSound}
use Rattle.fleet_model.specs.State.{State, state_of}

abbrev standing : List Filter → List Filter → List Filter
standing filters added = filters ++ take (MOST_FILTERS - length filters) (first_named filters added)

-- one filter more, as it has room and a new name or not
one_added : (filters : List Filter) (filter : Filter) (later : List Filter) (after : List Filter
    → List Filter) → ((fs : List Filter) → after fs ≡ standing fs later)
    → after (cond (nat_lt (length filters) MOST_FILTERS && not (is_named filters filter))
    (filters ++ filter ∷ []) filters) ≡ standing filters (filter ∷ later)
one_added filters filter later after h =
    elim (is_named filters filter) as
    (λ b. after (cond (nat_lt (length filters) MOST_FILTERS && not b) (filters ++ filter ∷ [])
    filters) ≡ filters ++ take (MOST_FILTERS - length filters)
    (cond b (first_named filters later) (filter ∷ first_named (filters ++ filter ∷ []) later))) [
      | true ↦ ap (λ b. after (cond b (filters ++ filter ∷ []) filters))
          (and_no (nat_lt (length filters) MOST_FILTERS)) ∙ h filters
      | false ↦ elim (nat_lt (length filters) MOST_FILTERS) as
          (λ r. nat_lt (length filters) MOST_FILTERS ≡ r
          → after (cond (r && true) (filters ++ filter ∷ []) filters) ≡ filters
          ++ take (MOST_FILTERS - length filters)
          (filter ∷ first_named (filters ++ filter ∷ []) later)) [
            | true ↦ λ room.
                let fewer : length filters < MOST_FILTERS = grind (arith, nat_tests) in
                let longer = length-append filters (filter ∷ []) in
                let left : MOST_FILTERS - length filters
                ≡ suc (MOST_FILTERS - length (filters ++ filter ∷ [])) = omega arith in
                h (filters ++ filter ∷ [])
                ∙ append_assoc filters (filter ∷ [])
                (take (MOST_FILTERS - length (filters ++ filter ∷ []))
                (first_named (filters ++ filter ∷ []) later))
                ∙ ap (λ n. filters ++ take n (filter ∷ first_named (filters ++ filter ∷ []) later))
                (sym left)
            | false ↦ λ full.
                let none : MOST_FILTERS - length filters ≡ 0 =
                let most : MOST_FILTERS ≤ length filters = grind (arith, nat_tests) in
                omega arith in
                h filters
                ∙ ap (λ n. filters ++ take n (first_named filters later)) none
                ∙ sym (ap (λ n. filters ++ take n
                (filter ∷ first_named (filters ++ filter ∷ []) later))
                none)
          ] refl
    ]

more : (configured : ℕ) (filters : List Filter) (w : What) (later : List Filter)
    (after : List Filter → List Filter) → is_drop w ≡ false
    → ((fs : List Filter) → after fs ≡ standing fs later)
    → after (filters_after configured filters w) ≡ standing filters (cons_option (added_in w) later)
more configured filters Sit later after adds h = h filters
more configured filters (Open peer) later after adds h = h filters
more configured filters (Put peer table key life cells) later after adds h = h filters
more configured filters (Clear table sel) later after adds h = h filters
more configured filters (AddFilter filter) later after adds h =
    one_added filters filter later after h
more configured filters (DropFilter name) later after adds h = absurd (true≢false adds)
more configured filters (Moment moment) later after adds h = h filters
more configured filters Leave later after adds h = h filters

all_added : (configured : ℕ) (counted : List Event) (filters : List Filter)
    → list_any (λ e. is_drop e.what) counted ≡ false
    → fold (λ filters e. filters_after configured filters e.what) filters counted
    ≡ standing filters (added_by counted)
all_added configured [] filters adds = sym (append-nil filters)
    ∙ ap (λ fs. filters ++ fs) (sym (no_more (MOST_FILTERS - length filters)))
  where
    no_more : (n : ℕ) → take n (first_named filters []) ≡ []
    no_more n = grind arith
all_added configured (e ∷ counted) filters adds =
    more configured filters e.what (added_by counted)
    (λ fs. fold (λ filters e. filters_after configured filters e.what) fs counted)
    (or_left (is_drop e.what) (list_any (λ e. is_drop e.what) counted) adds)
    (λ fs. all_added configured counted fs
    (or_right (is_drop e.what) (list_any (λ e. is_drop e.what) counted) adds))

pub first_of_each_name : (config : Config) (opening : ℕ) (events later some : List Event)
    → counted_of (judged config opening (events ++ later))
    ≡ counted_of (judged config opening events) ++ some
    → list_any (λ e. is_drop e.what) some ≡ false
    → let before = (state_of config opening events).config.filters in
    (state_of config opening (events ++ later)).config.filters
    ≡ before ++ take (MOST_FILTERS - length before) (first_named before (added_by some))
unfolding state_of filters_in
first_of_each_name config opening events later some split adds =
    let configured : ℕ = length config.filters in
    let counted : List Event = counted_of (judged config opening events) in
    ap (fold (λ filters e. filters_after configured filters e.what) config.filters) split
    ∙ (fold-append (λ (filters : List Filter) (e : Event).
    filters_after configured filters e.what) config.filters counted some
    ∙ all_added configured some
    (fold (λ filters e. filters_after configured filters e.what) config.filters counted) adds)

-- ---- the configured filters
record StandFirst (configured : List Filter) (filters : List Filter) : Type 0 where
  first : take (length configured) filters ≡ configured

within : (configured filters : List Filter) → StandFirst configured filters
    → length configured ≤ length filters
within configured filters h =
    let same = ap length h.first in
    let taken = length-take (length configured) filters in
    omega arith

added-first : (configured filters : List Filter) (filter : Filter) (new : Bool)
    → StandFirst configured filters
    → StandFirst configured (cond new (filters ++ filter ∷ []) filters)
added-first configured filters filter true h = record {
  first = take-append-le (length configured) filters (filter ∷ []) (within configured filters h)
      ∙ h.first;
}
added-first configured filters filter false h = h

event-first : (configured filters : List Filter) (w : What) → StandFirst configured filters
    → StandFirst configured (filters_after (length configured) filters w)
event-first configured filters Sit h = h
event-first configured filters (Open peer) h = h
event-first configured filters (Put peer table key life cells) h = h
event-first configured filters (Clear table sel) h = h
event-first configured filters (AddFilter filter) h =
    added-first configured filters filter (is_new filters filter) h
event-first configured filters (DropFilter name) h = record {
  first = take-dropped (length configured) name filters (within configured filters h) ∙ h.first;
}
event-first configured filters (Moment moment) h = h
event-first configured filters Leave h = h

all-first : (configured filters : List Filter) (counted : List Event)
    → StandFirst configured filters → StandFirst configured
    (fold (λ filters e. filters_after (length configured) filters e.what) filters counted)
all-first configured filters [] h = h
all-first configured filters (e ∷ counted) h =
    all-first configured (filters_after (length configured) filters e.what) counted
    (event-first configured filters e.what h)

pub configured_first : (config : Config) (opening : ℕ) (events : List Event)
    → take (length config.filters) (state_of config opening events).config.filters
    ≡ config.filters
unfolding state_of filters_in
configured_first config opening events =
    (all-first config.filters config.filters (counted_of (judged config opening events))
    (record { first = take_all (length config.filters) config.filters (omega arith) })).first

-- ---- a filter that is dropped
pub drop_gone : (state : State) (e : Event) (name : List ℕ) → IsSound state
    → counts_now state e ≡ true → e.what ≡ DropFilter name
    → is_added (after state e).configured (after state e).config.filters name ≡ false
unfolding after happened
drop_gone state e name sound counts is =
    ap (λ (s : State). is_added s.configured s.config.filters name)
    (ap (λ b. cond b (happened state e e.what) state) counts ∙ ap (happened state e) is)
    ∙ gone state.config state.configured name sound.checked

pub drop_others : (state : State) (e : Event) (name : List ℕ) → e.what ≡ DropFilter name
    → filter (λ f. not (bytes_eq f.name name)) (after state e).config.filters
    ≡ filter (λ f. not (bytes_eq f.name name)) state.config.filters
unfolding after happened
drop_others state e name is = by (counts_now state e)
  where
    by : (b : Bool) → filter (λ f. not (bytes_eq f.name name))
        (cond b (happened state e e.what) state).config.filters
        ≡ filter (λ f. not (bytes_eq f.name name)) state.config.filters
    by true = ap (λ w. filter (λ f. not (bytes_eq f.name name))
        (happened state e w).config.filters) is
        ∙ others-stay state.configured name state.config.filters
    by false = refl

pub drop_frees : (state : State) (e : Event) (name : List ℕ) → counts_now state e ≡ true
    → e.what ≡ DropFilter name → is_added state.configured state.config.filters name ≡ true
    → length (after state e).config.filters + 1 ≡ length state.config.filters
unfolding after happened
drop_frees state e name counts is there =
    ap (λ (s : State). length s.config.filters + 1)
    (ap (λ b. cond b (happened state e e.what) state) counts ∙ ap (happened state e) is)
    ∙ one-fewer state.configured name state.config.filters there

-- whether an event counts after a list is said of the list
pub counting : (config : Config) (opening : ℕ) (events : List Event) (e : Event)
    → counts_now (state_of config opening events) e
    ≡ counts config (counted_of (judged config opening events)) e
unfolding state_of rows_in
counting config opening events e = counts_same config opening (judged config opening events)
    (counted_of (judged config opening events)) e
