-- What is counted under the lock, as the history goes on.
use Rattle.std.proofs.Common.{◌≡◌, ◌≢◌, ℕ, ◌+◌, ◌<◌, ◌≤◌, ◌==◌, ◌&&◌, Bool, true, false, cond}
use Rattle.std.proofs.Common.{nat_lt, nat_le, List, [], ◌∷◌, ◌++◌, length, get_or, set, Option}
use Rattle.std.proofs.Common.{None, Some, refl, sym, ap, ◌∙◌, arith}
use Rattle.std.proofs.lemmas.Bool.Decides.{nat_tests}
use Rattle.std.proofs.lemmas.List.{get_or-set_other, get_or-set_same}
use Rattle.std.proofs.Math.ListN.{length-set}
use Rattle.std.specs.BTreeMap.{insert_entry, is_at}
use Rattle.std.specs.Bool.{then_some}
use Rattle.std.specs.Map.{remove_entry}
use Rattle.std.specs.Option.{option_or}
use Rattle.std.specs.Ordering.{nat_cmp}
use Rattle.agg_types.specs.Fits.{fits}
use Rattle.agg_types.specs.declared.config.Config.{Config}
use Rattle.agg_types.specs.declared.config.Filter.{Filter}
use Rattle.agg_types.specs.declared.event.Event.{Event}
use Rattle.agg_types.specs.declared.event.What.{What}
use Rattle.agg_types.specs.declared.event.What.TheVariants.{Sit, Open, Put, Clear, AddFilter}
use Rattle.agg_types.specs.declared.event.What.TheVariants.{DropFilter, Moment, Leave}
use Rattle.agg_types.specs.declared.limits.TheConstants.{LAST_SEAT, MOST_SEATS, NUMBERS_END}
use Rattle.fleet_model.proofs.Step.{one_more}
use Rattle.fleet_model.specs.Machine.{counts_now, happened}
use Rattle.fleet_model.specs.Seats.{is_next, is_number, is_sit}
use Rattle.fleet_model.specs.Sessions.{last_opener, opens}
use Rattle.fleet_model.specs.State.{State, state_of}
use Rattle.hub.specs.History.{Beginning}
use Rattle.hub.specs.Roll.{Counted, IsCountOf, MayPost, last_after}
use Rattle.hub.proofs.Counting.{after_counted, found, plain_seats}

abbrev pub state_at : Beginning → State
state_at b = state_of b.config b.opening b.events

abbrev pub longer : Beginning → Event → Beginning
longer b e = record b { events = b.events ++ e ∷ [] }

abbrev pub event_at : ℕ → ℕ → What → Event
event_at seat seq what = record { seat = seat; seq = seq; what = what }

fits_with : (config : Config) (filters : List Filter) (what : What)
    → fits (record config { filters = filters }) what ≡ fits config what
fits_with config filters Sit = refl
fits_with config filters (Open peer) = refl
fits_with config filters (Put peer table key life cells) = refl
fits_with config filters (Clear table sel) = refl
fits_with config filters (AddFilter filter) = refl
fits_with config filters (DropFilter name) = refl
fits_with config filters (Moment moment) = refl
fits_with config filters Leave = refl

-- the filters that stand make no difference to what may happen
pub fits_at : (b : Beginning) (what : What) → fits (state_at b).config what ≡ fits b.config what
unfolding state_of
fits_at b what = fits_with b.config (state_at b).config.filters what

number_is : (o : Option ℕ) (n : ℕ) → o ≡ Some n → is_number o n ≡ true
number_is None n is = absurd (cc is)
number_is (Some m) n is = let same : m ≡ n = cc is in grind (arith, nat_tests)

both : (a b : Bool) → a ≡ true → b ≡ true → a && b ≡ true
both true b p q = q
both false b p q = p

counts_by : (s : State) (e : Event) (what : What) → is_sit what ≡ false → fits s.config what ≡ true
    → found e.seat s.seats ≡ Some e.seq → e.seq < NUMBERS_END
    → (fits s.config what && is_next what e.seat e.seq (nat_lt (length s.seats) MOST_SEATS)
    s.next_seat (found e.seat s.seats)) ≡ true
counts_by s e what sits fit due small =
    let plain : is_number (found e.seat s.seats) e.seq && nat_lt e.seq NUMBERS_END ≡ true =
    both _ _ (number_is (found e.seat s.seats) e.seq due) (grind (arith, nat_tests)) in
    both _ _ fit (ap (λ b. cond b ((e.seq == 0) && nat_le e.seat LAST_SEAT && nat_le s.next_seat
    e.seat && nat_lt (length s.seats) MOST_SEATS) (is_number (found e.seat s.seats) e.seq
    && nat_lt e.seq NUMBERS_END)) sits ∙ plain)

-- what a seat that sits may post counts under its next number
pub post_counts : (b : Beginning) (counted : Counted) (seat seq : ℕ) (what : What)
    → IsCountOf counted b → is_sit what ≡ false → fits b.config what ≡ true
    → found seat counted.seats ≡ Some seq → seq < NUMBERS_END
    → counts_now (state_at b) (event_at seat seq what) ≡ true
unfolding counts_now
post_counts b counted seat seq what is sits fit due small =
    counts_by (state_at b) (event_at seat seq what) what sits (fits_at b what ∙ fit)
    (ap (found seat) (sym is.seats) ∙ due) small

-- the next seat may sit down while fewer sit than may
pub sit_counts : (b : Beginning) (counted : Counted) → IsCountOf counted b
    → nat_lt (length counted.seats) MOST_SEATS ≡ true → counted.next_seat ≤ LAST_SEAT
    → counts_now (state_at b) (event_at counted.next_seat 0 Sit) ≡ true
unfolding counts_now
sit_counts b counted is free small =
    let above : (state_at b).next_seat ≤ counted.next_seat = omega (arith, is.next_seat) in
    let in_range : nat_le counted.next_seat LAST_SEAT ≡ true = grind (arith, nat_tests) in
    let new : nat_le (state_at b).next_seat counted.next_seat ≡ true = grind (arith, nat_tests) in
    let room : nat_lt (length (state_at b).seats) MOST_SEATS ≡ true =
    ap (λ (seats : List (ℕ × ℕ)). nat_lt (length seats) MOST_SEATS) (sym is.seats) ∙ free in
    both true _ refl (both _ _ (both _ _ (both true _ refl in_range) new) room)

-- ---- one event more

state_more : (b : Beginning) (e : Event) → counts_now (state_at b) e ≡ true
    → state_at (longer b e) ≡ happened (state_at b) e e.what
state_more b e counts = one_more b.config b.opening b.events e ∙ after_counted (state_at b) e counts

or_assoc : (a b c : Option ℕ) → option_or (option_or a b) c ≡ option_or a (option_or b c)
or_assoc None b c = refl
or_assoc (Some a) b c = refl

or_none : (a : Option ℕ) → option_or a None ≡ a
or_none None = refl
or_none (Some a) = refl

pub last_opener-append : (peer : ℕ) (events later : List Event) → last_opener peer (events ++ later)
    ≡ option_or (last_opener peer later) (last_opener peer events)
last_opener-append peer [] later = sym (or_none (last_opener peer later))
last_opener-append peer (f ∷ events) later =
    ap (λ o. option_or o (then_some (opens peer f.what) f.seat))
    (last_opener-append peer events later)
    ∙ or_assoc (last_opener peer later) (last_opener peer events)
    (then_some (opens peer f.what) f.seat)

last_opener-more : (peer : ℕ) (events : List Event) (e : Event)
    → last_opener peer (events ++ e ∷ []) ≡ option_or (then_some (opens peer e.what) e.seat)
    (last_opener peer events)
last_opener-more peer events e = last_opener-append peer events (e ∷ [])

abbrev Lasts : List (Option ℕ) → List Event → Type 0
Lasts last events = (peer : ℕ) → get_or last peer None ≡ last_opener peer events

last_by : (last : List (Option ℕ)) (events : List Event) (seat seq : ℕ) (what : What) (n : ℕ)
    → length last ≡ n → ((peer : ℕ) → what ≡ Open peer → peer < n) → Lasts last events
    → (w : What) → w ≡ what → (peer : ℕ) → get_or (last_after last seat w) peer None
    ≡ option_or (then_some (opens peer w) seat) (last_opener peer events)
last_by last events seat seq what n len within old Sit is peer = old peer
last_by last events seat seq what n len within old (Open opened) is peer =
    by_test (opened == peer) refl
  where
    by_test : (b : Bool) → (opened == peer) ≡ b → get_or (set last opened (Some seat)) peer None
        ≡ option_or (then_some b seat) (last_opener peer events)
    by_test true same =
        let eq : opened ≡ peer = grind (arith, nat_tests) in
        let below : opened < length last = let small = within opened (sym is) in omega arith in
        ap (λ p. get_or (set last opened (Some seat)) p None) (sym eq)
        ∙ get_or-set_same last opened (Some seat) None below
    by_test false apart =
        let ne : peer ≢ opened = grind (arith, nat_tests) in
        get_or-set_other last opened peer (Some seat) None ne ∙ old peer
last_by last events seat seq what n len within old (Put peer' table key life cells) is peer =
    old peer
last_by last events seat seq what n len within old (Clear table sel) is peer = old peer
last_by last events seat seq what n len within old (AddFilter filter) is peer = old peer
last_by last events seat seq what n len within old (DropFilter name) is peer = old peer
last_by last events seat seq what n len within old (Moment moment) is peer = old peer
last_by last events seat seq what n len within old Leave is peer = old peer

length-last_after : (last : List (Option ℕ)) (seat : ℕ) (what : What)
    → length (last_after last seat what) ≡ length last
length-last_after last seat Sit = refl
length-last_after last seat (Open peer) = length-set last peer (Some seat)
length-last_after last seat (Put peer table key life cells) = refl
length-last_after last seat (Clear table sel) = refl
length-last_after last seat (AddFilter filter) = refl
length-last_after last seat (DropFilter name) = refl
length-last_after last seat (Moment moment) = refl
length-last_after last seat Leave = refl

-- a seat posts something
pub post_more : (b : Beginning) (counted : Counted) (seat seq : ℕ) (what : What)
    → IsCountOf counted b → MayPost b.config what → found seat counted.seats ≡ Some seq
    → seq < NUMBERS_END
    → IsCountOf (record {
      seats = insert_entry nat_cmp counted.seats seat (seq + 1);
      next_seat =
          counted.next_seat;
      last = last_after counted.last seat what;
    })
    (longer b (event_at seat seq what))
post_more b counted seat seq what is may due small =
    let e = event_at seat seq what in
    let grown = state_more b e (post_counts b counted seat seq what is may.sits
    may.fits due small) in
    let plain = plain_seats (state_at b) e what may.sits may.leaves in
    record {
      seats = ap (λ (seats : List (ℕ × ℕ)). insert_entry nat_cmp seats seat (seq + 1)) is.seats
          ∙ (sym plain.0 ∙ ap (λ s. s.seats) (sym grown));
      next_seat = is.next_seat ∙ (sym plain.1 ∙ ap (λ s. s.next_seat) (sym grown));
      peers = length-last_after counted.last seat what ∙ is.peers;
      last = λ peer. last_by counted.last b.events seat seq what (length b.config.peers) is.peers
          (λ p same. let fit : fits b.config (Open p) ≡ true = ap (fits b.config) (sym same)
          ∙ may.fits in grind (arith, nat_tests)) is.last what refl peer
          ∙ sym (last_opener-more peer b.events e);
    }

-- the next seat sits down
pub sit_more : (b : Beginning) (counted : Counted) → IsCountOf counted b
    → counts_now (state_at b) (event_at counted.next_seat 0 Sit) ≡ true
    → IsCountOf (record {
      seats = insert_entry nat_cmp counted.seats counted.next_seat 1;
      next_seat
          = counted.next_seat + 1;
      last = counted.last;
    })
    (longer b (event_at counted.next_seat 0 Sit))
unfolding happened
sit_more b counted is counts =
    let e = event_at counted.next_seat 0 Sit in
    let grown = state_more b e counts in
    record {
      seats = ap (λ (seats : List (ℕ × ℕ)). insert_entry nat_cmp seats counted.next_seat 1) is.seats
          ∙ ap (λ s. s.seats) (sym grown);
      next_seat = ap (λ s. s.next_seat) (sym grown);
      peers = is.peers;
      last = λ peer. is.last peer ∙ sym (last_opener-more peer b.events e);
    }

-- a seat leaves
pub leave_more : (b : Beginning) (counted : Counted) (seat seq : ℕ) → IsCountOf counted b
    → counts_now (state_at b) (event_at seat seq Leave) ≡ true
    → IsCountOf (record counted { seats = remove_entry (is_at (nat_cmp seat)) counted.seats })
    (longer b (event_at seat seq Leave))
unfolding happened
leave_more b counted seat seq is counts =
    let e = event_at seat seq Leave in
    let grown = state_more b e counts in
    record {
      seats = ap (remove_entry (is_at (nat_cmp seat))) is.seats ∙ ap (λ s. s.seats) (sym grown);
      next_seat = is.next_seat ∙ ap (λ s. s.next_seat) (sym grown);
      peers = is.peers;
      last = λ peer. is.last peer ∙ sym (last_opener-more peer b.events e);
    }
