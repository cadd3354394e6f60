-- A batch on its way into the history.
use Rattle.std.proofs.Common.{◌≡◌, ℕ, suc, ◌+◌, ◌<◌, cond, fold, true, List, [], ◌∷◌, ◌++◌, length}
use Rattle.std.proofs.Common.{Some, T, refl, sym, ap, ◌∙◌, subst, arith, append-nil, append_assoc}
use Rattle.std.proofs.lemmas.Bool.Decides.{nat_tests}
use Rattle.std.proofs.lemmas.Cmp.{nat_cmp_total}
use Rattle.std.proofs.lemmas.List.Sums.{fold-append}
use Rattle.std.proofs.lemmas.Map.Lookups.{exact_unsigned}
use Rattle.std.specs.BTreeMap.{insert_entry}
use Rattle.std.specs.FinMap.Entries.{is_sorted}
use Rattle.std.specs.List.{All}
use Rattle.std.specs.Ordering.{is_eq, nat_cmp}
use Rattle.agg_types.specs.declared.event.Event.{Event}
use Rattle.agg_types.specs.declared.event.What.{What}
use Rattle.agg_types.specs.declared.limits.TheConstants.{NUMBERS_END}
use Rattle.book.proofs.Updates.{in_order, last_stays, same_stays}
use Rattle.fleet_model.proofs.Entries.{lookup-insert}
use Rattle.fleet_model.specs.Machine.{after, counts_now}
use Rattle.fleet_model.specs.Seats.{numbered}
use Rattle.fleet_model.specs.State.{State}
use Rattle.hub.specs.Batches.{Batched, events_in}
use Rattle.hub.specs.History.{AllCount, Beginning, all_count, longer_by}
use Rattle.hub.specs.Copied.{Brought, Stores, all_taken, taken, whole}
use Rattle.hub.specs.Trailed.{trail_to}
use Rattle.hub.specs.Roll.{Counted, IsCountOf, MayPost, last_after, lasts_after}
use Rattle.hub.specs.Sitting.{Recalled, Recalls, all_opened_after, opened_after}
use Rattle.hub.proofs.Recalling.{recalls_more}
use Rattle.hub.proofs.Trailing.{state_and_more}
use Rattle.hub.proofs.Counting.{counts_own, found}
use Rattle.hub.proofs.Rolling.{event_at, longer, post_counts, post_more, state_at}

-- recomputing from events and more of them
pub state_more_all : (b : Beginning) (events : List Event)
    → state_at (longer_by b events) ≡ fold after (state_at b) events
state_more_all b events = state_and_more b.config b.opening b.events events

-- events that came as one bring a copy to the longer beginning
pub stores_all : (queue : List Brought) (b : Beginning) (events : List Event)
    → Stores queue b (queue ++ (record { events = events; at = longer_by b events }) ∷ [])
    (longer_by b events)
stores_all queue b events x brings =
    let op : Brought = record { events = events; at = longer_by b events } in
    fold-append taken x queue (op ∷ []) ∙ (ap (λ y. taken y op) brings ∙ ap (λ s. record {
      at = longer_by b events;
      state = s;
      took = trail_to (longer_by b events);
    }) (sym (state_more_all b events)))

pub stored_all : (queue later : List Brought) (b b' : Beginning) (events : List Event)
    → b' ≡ longer_by b events → later ≡ queue ++ (record { events = events; at = b' }) ∷ []
    → Stores queue b later b'
stored_all queue later b b' events b_is later_is x brings =
    ap (all_taken x)
    (later_is ∙ ap (λ c. queue ++ (record { events = events; at = c }) ∷ []) b_is)
    ∙ (stores_all queue b events x brings ∙ ap whole (sym b_is))

-- the end of a batch behind them changes nothing
pub stored_end : (queue later ended : List Brought) (b b' : Beginning)
    → Stores queue b later b' → ended ≡ later ++ (record { events = []; at = b' }) ∷ []
    → Stores queue b ended b'
stored_end queue later ended b b' stored ended_is x brings =
    let op : Brought = record { events = []; at = b' } in
    ap (all_taken x) ended_is
    ∙ (fold-append taken x later (op ∷ []) ∙ (ap (λ y. taken y op) (stored x brings)
    ∙ ap (λ es. record (whole b') { took = record (trail_to b') { events = es } })
    (append-nil b'.events)))

pub found_same : (seat n : ℕ) (seats : List (ℕ × ℕ))
    → found seat (insert_entry nat_cmp seats seat n) ≡ Some n
found_same seat n seats =
    let same : is_eq (nat_cmp seat seat) ≡ true = grind (arith, nat_tests) in
    lookup-insert nat_cmp nat_cmp_total exact_unsigned seat seats seat n
    ∙ ap (λ b. cond b (Some n) (found seat seats)) same

pub all_head : {X : Type 0} (P : X → Type 0) (x : X) (xs : List X) → All P (x ∷ xs) → P x
all_head P x xs h = h 0 x (omega arith)

pub all_tail : {X : Type 0} (P : X → Type 0) (x : X) (xs : List X) → All P (x ∷ xs) → All P xs
all_tail P x xs h k d below = h (suc k) d (omega arith)

-- what a seat may post next, and where it stands
pub record Due (b : Beginning) (roll : Counted) (r : Recalled) (whats : List What) : Type 0 where
  pub counted : IsCountOf roll b
  pub recalled : Recalls r b
  pub fits : All (MayPost b.config) whats
  pub due : found r.seat roll.seats ≡ Some r.number
  pub last : r.number + length whats < NUMBERS_END

-- what is counted, and what is kept of the seat, behind its next event
abbrev counted_one : Counted → Recalled → What → Counted
counted_one roll r what = record {
  seats = insert_entry nat_cmp roll.seats r.seat (r.number + 1);
  next_seat = roll.next_seat;
  last = last_after roll.last r.seat what;
}

abbrev noted_one : Recalled → What → Recalled
noted_one r what =
    record { seat = r.seat; number = r.number + 1; opened = opened_after r.opened what }

small : (b : Beginning) (roll : Counted) (r : Recalled) (what : What) (whats : List What)
    → Due b roll r (what ∷ whats) → r.number < NUMBERS_END
small b roll r what whats h = let l = h.last in omega arith

due_more : (b : Beginning) (roll : Counted) (r : Recalled) (what : What) (whats : List What)
    → Due b roll r (what ∷ whats)
    → Due (longer b (event_at r.seat r.number what)) (counted_one roll r what) (noted_one r what)
    whats
due_more b roll r what whats h =
    let may = all_head (MayPost b.config) what whats h.fits in
    record {
      counted = post_more b roll r.seat r.number what h.counted may h.due
          (small b roll r what whats h);
      recalled = recalls_more r b what h.recalled may.fits;
      fits = all_tail (MayPost b.config) what whats h.fits;
      due = found_same r.seat (r.number + 1) roll.seats;
      last = let l = h.last in omega arith;
    }

-- all of it counts, one after the other
due_counts : (b : Beginning) (roll : Counted) (r : Recalled) (whats : List What)
    → Due b roll r whats → all_count (state_at b) (numbered r.seat r.number whats) ≡ true
due_counts b roll r [] h = refl
due_counts b roll r (what ∷ whats) h =
    let e = event_at r.seat r.number what in
    let may = all_head (MayPost b.config) what whats h.fits in
    let one : counts_now (state_at b) e ≡ true =
    post_counts b roll r.seat r.number what h.counted may.sits may.fits h.due
    (small b roll r what whats h) in
    let later = due_counts (longer b e) (counted_one roll r what) (noted_one r what) whats
    (due_more b roll r what whats h) in
    let rest : all_count (after (state_at b) e) (numbered r.seat (r.number + 1) whats) ≡ true =
    ap (λ (s : State). all_count s (numbered r.seat (r.number + 1) whats))
    (sym (state_more_all b (e ∷ []))) ∙ later in
    rw (one, rest) refl

-- what is counted and kept behind all of it
abbrev counted_all : Counted → Recalled → List What → Counted
counted_all roll r whats = record {
  seats = insert_entry nat_cmp roll.seats r.seat (r.number + length whats);
  next_seat = roll.next_seat;
  last = lasts_after roll.last r.seat whats;
}

abbrev noted_all : Recalled → List What → Recalled
noted_all r whats = record {
  seat = r.seat;
  number = r.number + length whats;
  opened = all_opened_after r.opened whats;
}

-- the seats that are counted stand in order, since all events count
seats_sorted : (b : Beginning) (roll : Counted) → AllCount b.config b.opening b.events
    → IsCountOf roll b → T (is_sorted nat_cmp roll.seats)
seats_sorted b roll all h =
    subst (λ (seats : List (ℕ × ℕ)). T (is_sorted nat_cmp seats)) (sym h.seats)
    (counts_own b.config b.opening b.events all).sorted

abbrev Stand : Beginning → Counted → Recalled → Type 0
Stand b roll r = IsCountOf roll b × Recalls r b

-- the same in other words
stand_as : (b b' : Beginning) (roll roll' : Counted) (r r' : Recalled) → b ≡ b' → roll ≡ roll'
    → r ≡ r' → Stand b roll r → Stand b' roll' r'
stand_as b b' roll roll' r r' b_is roll_is r_is h =
    subst (λ (x : Beginning). Stand x roll' r') b_is
    (subst (λ (x : Counted). Stand b x r') roll_is (subst (Stand b roll) r_is h))

longer_none : (b : Beginning) → longer_by b [] ≡ b
longer_none b = ap (λ es. record b { events = es }) (append-nil b.events)

due_all : (b : Beginning) (roll : Counted) (r : Recalled) (whats : List What)
    → Due b roll r whats → T (is_sorted nat_cmp roll.seats)
    → Stand (longer_by b (numbered r.seat r.number whats)) (counted_all roll r whats)
    (noted_all r whats)
due_all b roll r [] h sorted =
    let n : r.number + 0 ≡ r.number = omega arith in
    stand_as b (longer_by b []) roll (counted_all roll r []) r (noted_all r [])
    (sym (longer_none b))
    (ap (λ (seats : List (ℕ × ℕ)). record roll { seats = seats })
    (sym (same_stays roll.seats r.seat r.number sorted h.due)
    ∙ ap (insert_entry nat_cmp roll.seats r.seat) (sym n)))
    (ap (λ (n : ℕ). record r { number = n }) (sym n)) (h.counted, h.recalled)
due_all b roll r (what ∷ whats) h sorted =
    let e = event_at r.seat r.number what in
    let n : r.number + 1 + length whats ≡ r.number + length (what ∷ whats) = omega arith in
    let later = due_all (longer b e) (counted_one roll r what) (noted_one r what) whats
    (due_more b roll r what whats h) (in_order roll.seats r.seat (r.number + 1) sorted) in
    stand_as (longer_by (longer b e) (numbered r.seat (r.number + 1) whats))
    (longer_by b (numbered r.seat r.number (what ∷ whats)))
    (counted_all (counted_one roll r what) (noted_one r what) whats)
    (counted_all roll r (what ∷ whats)) (noted_all (noted_one r what) whats)
    (noted_all r (what ∷ whats))
    (ap (λ es. record b { events = es })
    (append_assoc b.events (e ∷ []) (numbered r.seat (r.number + 1) whats)))
    (ap (λ (seats : List (ℕ × ℕ)). record (counted_all roll r (what ∷ whats)) { seats = seats })
    (last_stays roll.seats r.seat (r.number + 1) (r.number + 1 + length whats) sorted
    ∙ ap (insert_entry nat_cmp roll.seats r.seat) n))
    (ap (λ (n : ℕ). record (noted_all r (what ∷ whats)) { number = n }) n) later

-- ---- a batch under its seat's next numbers

events_next : (r : Recalled) (batch : Batched) → batch.seat ≡ r.seat → batch.first ≡ r.number
    → numbered r.seat r.number batch.whats ≡ events_in batch
events_next r batch seat first i =
    numbered ((sym seat) i) ((sym first) i) batch.whats

pub batch_counts : (b : Beginning) (roll : Counted) (r : Recalled) (batch : Batched)
    → batch.seat ≡ r.seat → batch.first ≡ r.number → Due b roll r batch.whats
    → all_count (state_at b) (events_in batch) ≡ true
batch_counts b roll r batch seat first due =
    ap (all_count (state_at b)) (sym (events_next r batch seat first))
    ∙ due_counts b roll r batch.whats due

-- the same beginning with more events
longer_as : (b b' : Beginning) (events more : List Event)
    → (b'.of ≡ b.of) × (b'.config ≡ b.config) × (b'.opening ≡ b.opening)
    → b'.events ≡ b.events ++ events → more ≡ events → longer_by b more ≡ b'
longer_as b b' events more fleet added same i = record {
  of = (sym fleet.0) i;
  config = (sym fleet.1) i;
  opening = (sym fleet.2) i;
  events = (ap (λ es. b.events ++ es) same ∙ sym added) i;
}

-- what is counted and kept behind a batch that was added
pub filled : (b : Beginning) (roll : Counted) (r : Recalled) (batch : Batched)
    → (seat : batch.seat ≡ r.seat) → (first : batch.first ≡ r.number) → Due b roll r batch.whats
    → AllCount b.config b.opening b.events → (b' : Beginning)
    → (b'.of ≡ b.of) × (b'.config ≡ b.config) × (b'.opening ≡ b.opening)
    → b'.events ≡ b.events ++ events_in batch
    → (noted roll' : Counted) (own r' : Recalled) (sits later : ℕ)
    → noted ≡ record roll { last = lasts_after roll.last batch.seat batch.whats }
    → own ≡ record r { opened = all_opened_after r.opened batch.whats }
    → sits ≡ own.seat → later ≡ batch.first + length batch.whats
    → roll' ≡ record noted { seats = insert_entry nat_cmp noted.seats sits later }
    → r' ≡ record own { number = later } → Stand b' roll' r'
filled b roll r batch seat first due all b' fleet added noted roll' own r' sits later noted_is
    own_is sits_is later_is roll_is r_is =
    let whats = batch.whats in
    let seat_is : r.seat ≡ sits = sym (sits_is ∙ ap (λ (r : Recalled). r.seat) own_is) in
    let number_is : r.number + length whats ≡ later =
    sym (later_is ∙ ap (λ n. n + length whats) first) in
    stand_as (longer_by b (numbered r.seat r.number whats)) b' (counted_all roll r whats) roll'
    (noted_all r whats) r'
    (longer_as b b' (events_in batch) (numbered r.seat r.number whats) fleet added
    (events_next r batch seat first))
    (sym (roll_is ∙ λ i. record {
      seats = insert_entry nat_cmp (noted_is i).seats ((sym seat_is) i) ((sym number_is) i);
      next_seat = (noted_is i).next_seat;
      last = (ap (λ (c : Counted). c.last) noted_is
          ∙ ap (λ s. lasts_after roll.last s whats) seat) i;
    }))
    (sym (r_is ∙ λ i. record {
      seat = (own_is i).seat;
      number = (sym number_is) i;
      opened = (own_is i).opened;
    }))
    (due_all b roll r whats due (seats_sorted b roll all due.counted))
