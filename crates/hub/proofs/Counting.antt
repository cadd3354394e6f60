-- The numbers of seats: how many events of a seat a history has.
use Rattle.std.proofs.Common.{◌≡◌, ℕ, ◌+◌, ◌<◌, ◌≤◌, ◌==◌, ◌&&◌, Bool, true, false, cond, not}
use Rattle.std.proofs.Common.{nat_lt, nat_le, List, [], ◌∷◌, ◌++◌, length, Option, None, Some, T}
use Rattle.std.proofs.Common.{refl, sym, ap, ◌∙◌, subst, arith, append-nil, fold, append_assoc}
use Rattle.std.proofs.Common.{length-append}
use Rattle.std.proofs.lemmas.Bool.Decides.{nat_tests}
use Rattle.std.proofs.lemmas.Cmp.{nat_cmp_total}
use Rattle.std.proofs.lemmas.List.Elements.{filter-append}
use Rattle.std.proofs.lemmas.Map.Lookups.{exact_unsigned}
use Rattle.std.specs.BTreeMap.{insert_entry, is_at}
use Rattle.std.specs.FinMap.Entries.{is_sorted}
use Rattle.std.specs.List.{filter}
use Rattle.std.specs.Map.{lookup, remove_entry}
use Rattle.std.specs.Ordering.{is_eq, nat_cmp}
use Rattle.agg_types.specs.declared.config.Config.{Config}
use Rattle.agg_types.specs.declared.event.Event.{Event}
use Rattle.agg_types.specs.declared.event.What.{What}
use Rattle.agg_types.specs.declared.event.What.TheVariants.{Sit, Open, Put, Clear, AddFilter}
use Rattle.agg_types.specs.declared.event.What.TheVariants.{DropFilter, Moment, Leave}
use Rattle.agg_types.specs.declared.limits.TheConstants.{LAST_SEAT, MOST_SEATS, NUMBERS_END}
use Rattle.fleet_model.proofs.Entries.{keep, lookup-filter, lookup-insert, remove_is, sorted-filter}
use Rattle.fleet_model.proofs.Entries.{sorted-insert}
use Rattle.fleet_model.proofs.Runs.{step_by_step}
use Rattle.fleet_model.proofs.Seats.{is_eq_back, is_eq_same, number_from}
use Rattle.fleet_model.specs.Machine.{after, counts_now, happened, opened}
use Rattle.fleet_model.specs.Seats.{is_leave, is_next, is_number, is_sit}
use Rattle.fleet_model.specs.State.{State, state_of}
use Rattle.hub.specs.History.{AllCount, all_count, own}

abbrev pub found : ℕ → List (ℕ × ℕ) → Option ℕ
found q seats = lookup (is_at (nat_cmp q)) seats

-- the numbers are those of the seats' own events, and no seat to come has any
pub record CountsOwn (seats : List (ℕ × ℕ)) (next : ℕ) (events : List Event) : Type 0 where
  pub sorted : T (is_sorted nat_cmp seats)
  pub numbers : (seat n : ℕ) → found seat seats ≡ Some n → (length (own seat events) ≡ n)
      × (seat < next)
  pub fresh : (seat : ℕ) → next ≤ seat → own seat events ≡ []

pub own-more : (q : ℕ) (events : List Event) (e : Event) (b : Bool) → (e.seat == q) ≡ b
    → own q (events ++ e ∷ []) ≡ own q events ++ cond b (e ∷ []) []
own-more q events e b is = filter-append (λ (e : Event). e.seat == q) events (e ∷ [])
    ∙ ap (λ b. own q events ++ cond b (e ∷ []) []) is

pub own-this : (q : ℕ) (events : List Event) (e : Event) → (e.seat == q) ≡ true
    → length (own q (events ++ e ∷ [])) ≡ length (own q events) + 1
own-this q events e is = let more = ap length (own-more q events e true is) in
    omega (arith, length-append (own q events) (e ∷ []))

own-other : (q : ℕ) (events : List Event) (e : Event) → (e.seat == q) ≡ false
    → own q (events ++ e ∷ []) ≡ own q events
own-other q events e is = own-more q events e false is ∙ append-nil (own q events)

-- an event of a seat that sits
plain_more : (seats : List (ℕ × ℕ)) (next : ℕ) (events : List Event) (e : Event)
    → CountsOwn seats next events → found e.seat seats ≡ Some e.seq
    → CountsOwn (insert_entry nat_cmp seats e.seat (e.seq + 1)) next (events ++ e ∷ [])
plain_more seats next events e h due = record {
  sorted = sorted-insert nat_cmp nat_cmp_total exact_unsigned seats e.seat (e.seq + 1) h.sorted;
  numbers = λ q n at.
      let at' : cond (e.seat == q) (Some (e.seq + 1)) (found q seats) ≡ Some n =
      ap (λ b. cond b (Some (e.seq + 1)) (found q seats)) (sym (is_eq_back q e.seat))
      ∙ (sym (lookup-insert nat_cmp nat_cmp_total exact_unsigned q seats e.seat (e.seq + 1))
      ∙ at) in
      by_test q n (e.seat == q) refl at';
  fresh = λ q above.
      let below : e.seat < next = (h.numbers e.seat e.seq due).1 in
      let other : (e.seat == q) ≡ false = grind (arith, nat_tests) in
      own-other q events e other ∙ h.fresh q above;
}
  where
    by_test : (q n : ℕ) (b : Bool) → (e.seat == q) ≡ b → cond b (Some (e.seq + 1)) (found q seats)
        ≡ Some n → (length (own q (events ++ e ∷ [])) ≡ n) × (q < next)
    by_test q n true is at =
        let same : e.seat ≡ q = grind (arith, nat_tests) in
        let old = h.numbers e.seat e.seq due in
        let old' : length (own q events) ≡ e.seq =
        subst (λ s. length (own s events) ≡ e.seq) same old.0 in
        let n_is : e.seq + 1 ≡ n = cc at in
        let one = own-this q events e is in
        (omega arith, omega arith)
    by_test q n false is at = let old = h.numbers q n at in
        (ap length (own-other q events e is) ∙ old.0, old.1)

-- a seat sits down
sit_more : (seats : List (ℕ × ℕ)) (next : ℕ) (events : List Event) (e : Event)
    → CountsOwn seats next events → next ≤ e.seat → e.seq ≡ 0
    → CountsOwn (insert_entry nat_cmp seats e.seat (e.seq + 1)) (e.seat + 1) (events ++ e ∷ [])
sit_more seats next events e h above zero_is = record {
  sorted = sorted-insert nat_cmp nat_cmp_total exact_unsigned seats e.seat (e.seq + 1) h.sorted;
  numbers = λ q n at.
      let at' : cond (e.seat == q) (Some (e.seq + 1)) (found q seats) ≡ Some n =
      ap (λ b. cond b (Some (e.seq + 1)) (found q seats)) (sym (is_eq_back q e.seat))
      ∙ (sym (lookup-insert nat_cmp nat_cmp_total exact_unsigned q seats e.seat (e.seq + 1))
      ∙ at) in
      by_test q n (e.seat == q) refl at';
  fresh = λ q later.
      let other : (e.seat == q) ≡ false = grind (arith, nat_tests) in
      own-other q events e other ∙ h.fresh q (omega arith);
}
  where
    by_test : (q n : ℕ) (b : Bool) → (e.seat == q) ≡ b → cond b (Some (e.seq + 1)) (found q seats)
        ≡ Some n → (length (own q (events ++ e ∷ [])) ≡ n) × (q < e.seat + 1)
    by_test q n true is at =
        let same : e.seat ≡ q = grind (arith, nat_tests) in
        let none = ap length (h.fresh q (omega arith)) in
        let n_is : e.seq + 1 ≡ n = cc at in
        let one = own-this q events e is in
        (omega arith, omega arith)
    by_test q n false is at = let old = h.numbers q n at in
        (ap length (own-other q events e is) ∙ old.0, omega arith)

abbrev others : ℕ → ℕ × ℕ → Bool
others seat x = not (is_eq (nat_cmp seat x.0))

-- a seat leaves
leave_more : (seats : List (ℕ × ℕ)) (next : ℕ) (events : List Event) (e : Event)
    → CountsOwn seats next events → found e.seat seats ≡ Some e.seq
    → CountsOwn (remove_entry (is_at (nat_cmp e.seat)) seats) next (events ++ e ∷ [])
leave_more seats next events e h due = record {
  sorted = subst (λ es. T (is_sorted nat_cmp es)) (sym removed)
      (sorted-filter nat_cmp (others e.seat) seats h.sorted);
  numbers = λ q n at.
      let at' : keep (λ v. others e.seat (q, v)) (found q seats) ≡ Some n =
      sym (lookup-filter nat_cmp nat_cmp_total exact_unsigned q (others e.seat) seats h.sorted)
      ∙ (ap (found q) (sym removed) ∙ at) in
      let at'' : keep (λ v. not (e.seat == q)) (found q seats) ≡ Some n =
      ap (λ b. keep (λ v. not b) (found q seats)) (sym (is_eq_same e.seat q)) ∙ at' in
      by_test q n (e.seat == q) refl (found q seats) refl at'';
  fresh = λ q above.
      let below : e.seat < next = (h.numbers e.seat e.seq due).1 in
      let other : (e.seat == q) ≡ false = grind (arith, nat_tests) in
      own-other q events e other ∙ h.fresh q above;
}
  where
    removed : remove_entry (is_at (nat_cmp e.seat)) seats ≡ filter (others e.seat) seats
    removed = remove_is nat_cmp nat_cmp_total exact_unsigned e.seat seats h.sorted

    by_test : (q n : ℕ) (b : Bool) → (e.seat == q) ≡ b → (o : Option ℕ) → found q seats ≡ o
        → keep (λ v. not b) o ≡ Some n → (length (own q (events ++ e ∷ [])) ≡ n) × (q < next)
    by_test q n true is None at kept = absurd (cc kept)
    by_test q n true is (Some m) at kept = absurd (cc kept)
    by_test q n false is None at kept = absurd (cc kept)
    by_test q n false is (Some m) at kept = let old = h.numbers q n (at ∙ kept) in
        (ap length (own-other q events e is) ∙ old.0, old.1)

-- ---- one event more, of any kind

pub plain_seats : (s : State) (e : Event) (what : What) → is_sit what ≡ false
    → is_leave what ≡ false
    → ((happened s e what).seats ≡ insert_entry nat_cmp s.seats e.seat (e.seq + 1))
    × ((happened s e what).next_seat ≡ s.next_seat)
unfolding happened
plain_seats s e Sit sits leaves = absurd (cc sits)
plain_seats s e (Open peer) sits leaves = (refl, refl)
plain_seats s e (Put peer table key life cells) sits leaves = (refl, refl)
plain_seats s e (Clear table sel) sits leaves = (refl, refl)
plain_seats s e (AddFilter filter) sits leaves = (refl, refl)
plain_seats s e (DropFilter name) sits leaves = (refl, refl)
plain_seats s e (Moment moment) sits leaves = (refl, refl)
plain_seats s e Leave sits leaves = absurd (cc leaves)

pub after_counted : (s : State) (e : Event) → counts_now s e ≡ true
    → after s e ≡ happened s e e.what
unfolding after
after_counted s e counts = ap (λ b. cond b (happened s e e.what) s) counts

pub and_left : (a b : Bool) → a && b ≡ true → a ≡ true
and_left true b h = refl
and_left false b h = absurd (cc h)

pub and_right : (a b : Bool) → a && b ≡ true → b ≡ true
and_right true b h = h
and_right false b h = absurd (cc h)

abbrev pub next_in : State → Event → What → Bool
next_in s e what = is_next what e.seat e.seq (nat_lt (length s.seats) MOST_SEATS) s.next_seat
    (found e.seat s.seats)

counted_next : (s : State) (e : Event) → counts_now s e ≡ true → next_in s e e.what ≡ true
unfolding counts_now
counted_next s e counts = and_right _ _ counts

pub due_from : (s : State) (e : Event) (what : What) → is_sit what ≡ false → next_in s e what ≡ true
    → found e.seat s.seats ≡ Some e.seq
due_from s e what sits next =
    let plain : is_number (found e.seat s.seats) e.seq && nat_lt e.seq NUMBERS_END ≡ true =
    ap (λ b. cond b ((e.seq == 0) && nat_le e.seat LAST_SEAT && nat_le s.next_seat e.seat
    && nat_lt (length s.seats) MOST_SEATS) (is_number (found e.seat s.seats) e.seq
    && nat_lt e.seq NUMBERS_END)) (sym sits) ∙ next in
    number_from (found e.seat s.seats) e.seq (and_left _ _ plain)

abbrev Counts : State → List Event → Type 0
Counts s events = CountsOwn s.seats s.next_seat events

happened_more : (s : State) (events : List Event) (e : Event) (what : What) → Counts s events
    → next_in s e what ≡ true → Counts (happened s e what) (events ++ e ∷ [])
unfolding happened
happened_more s events e Sit h next =
    let three = and_left ((e.seq == 0) && nat_le e.seat LAST_SEAT && nat_le s.next_seat e.seat)
    (nat_lt (length s.seats) MOST_SEATS) next in
    let two = and_left ((e.seq == 0) && nat_le e.seat LAST_SEAT)
    (nat_le s.next_seat e.seat) three in
    let above : nat_le s.next_seat e.seat ≡ true =
    and_right ((e.seq == 0) && nat_le e.seat LAST_SEAT) (nat_le s.next_seat e.seat) three in
    let zero_is : (e.seq == 0) ≡ true = and_left (e.seq == 0) (nat_le e.seat LAST_SEAT) two in
    sit_more s.seats s.next_seat events e h (grind (arith, nat_tests)) (grind (arith, nat_tests))
happened_more s events e (Open peer) h next =
    plain_more s.seats s.next_seat events e h (due_from s e (Open peer) refl next)
happened_more s events e (Put peer table key life cells) h next =
    plain_more s.seats s.next_seat events e h
    (due_from s e (Put peer table key life cells) refl next)
happened_more s events e (Clear table sel) h next =
    plain_more s.seats s.next_seat events e h (due_from s e (Clear table sel) refl next)
happened_more s events e (AddFilter filter) h next =
    plain_more s.seats s.next_seat events e h (due_from s e (AddFilter filter) refl next)
happened_more s events e (DropFilter name) h next =
    plain_more s.seats s.next_seat events e h (due_from s e (DropFilter name) refl next)
happened_more s events e (Moment moment) h next =
    plain_more s.seats s.next_seat events e h (due_from s e (Moment moment) refl next)
happened_more s events e Leave h next =
    leave_more s.seats s.next_seat events e h (due_from s e Leave refl next)

counts_more : (s : State) (events : List Event) (e : Event) → Counts s events
    → counts_now s e ≡ true → Counts (after s e) (events ++ e ∷ [])
counts_more s events e h counts =
    subst (λ t. Counts t (events ++ e ∷ [])) (sym (after_counted s e counts))
    (happened_more s events e e.what h (counted_next s e counts))

counts_all : (s : State) (before events : List Event) → Counts s before → all_count s events ≡ true
    → Counts (fold after s events) (before ++ events)
counts_all s before [] h all = subst (Counts s) (sym (append-nil before)) h
counts_all s before (e ∷ events) h all =
    let one = counts_more s before e h
    (and_left (counts_now s e) (all_count (after s e) events) all) in
    subst (Counts (fold after (after s e) events)) (append_assoc before (e ∷ []) events)
    (counts_all (after s e) (before ++ e ∷ []) events one
    (and_right (counts_now s e) (all_count (after s e) events) all))

-- where all events count, a seat that sits has as many events as its number says
pub counts_own : (config : Config) (opening : ℕ) (events : List Event)
    → AllCount config opening events → CountsOwn (state_of config opening events).seats
    (state_of config opening events).next_seat events
unfolding opened
counts_own config opening events all =
    subst (λ s. Counts s events) (sym (step_by_step config opening events))
    (counts_all (opened config opening) [] events
    (record { sorted = tt; numbers = λ q n at. absurd (cc at); fresh = λ q above. refl }) all)
