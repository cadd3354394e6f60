-- What lies under the lock stays as it must.
use Rattle.std.proofs.Common.{◌≡◌, ℕ, zero, suc, ◌==◌, ◌≤◌, nat_lt, Bool}
use Rattle.std.proofs.Common.{true, false, not, ◌&&◌, if◌then◌else◌, List, [], ◌∷◌, ◌++◌}
use Rattle.std.proofs.Common.{length, replicate, get_or, Option, None, Some, refl, sym, ap, ◌∙◌}
use Rattle.std.proofs.Common.{subst, arith}
use Rattle.std.proofs.lemmas.Bool.Decides.{nat_tests}
use Rattle.std.proofs.lemmas.List.{length-replicate}
use mathlib.Core.List.{IsPrefix}
use Rattle.std.proofs.lemmas.List.Sums.{fold-append}
use Rattle.logbook.specs.Pages.{Book}
use Rattle.agg_types.specs.declared.event.Event.{Event}
use Rattle.agg_types.specs.declared.event.What.TheVariants.{Sit}
use Rattle.agg_types.specs.declared.limits.TheConstants.{LAST_SEAT, MOST_SEATS}
use Rattle.fleet_model.proofs.Order.{no_events}
use Rattle.fleet_model.specs.Machine.{opened}
use Rattle.fleet_model.specs.Sessions.{last_opener}
use Rattle.fleet_model.specs.State.{state_of}
use Rattle.hub.specs.History.{AllCount, Beginning, longer_by, own}
use Rattle.hub.specs.Copied.{Brought, Copied, Stores, all_taken, taken, whole}
use Rattle.hub.specs.Trailed.{trail_to}
use Rattle.hub.specs.Keeping.{SitsDownIn}
use Rattle.hub.specs.Kept.{IsDesked, IsPressed, IsRested, IsTold, Kept, Pressed}
use Rattle.hub.specs.Posts.{Seated}
use Rattle.hub.specs.Roll.{Counted, IsCountOf}
use Rattle.hub.proofs.Counting.{counts_own, found, own-more}
use Rattle.hub.proofs.Histories.{legal-more}
use Rattle.hub.proofs.Rolling.{event_at, longer, sit_counts}

-- a seat that sits has as many events as its number says
pub owns_as_counted : (b : Beginning) (roll : Counted) (seat n : ℕ) → IsCountOf roll b
    → AllCount b.config b.opening b.events → found seat roll.seats ≡ Some n
    → length (own seat b.events) ≡ n
owns_as_counted b roll seat n is all at =
    ((counts_own b.config b.opening b.events all).numbers seat n (ap (found seat) (sym is.seats)
    ∙ at)).0

-- events were put behind the queue
pub desked_longer : (book : Book) (from : Beginning) (queue : List Brought)
    (front shown : Beginning) (roll : Counted) → IsDesked book from queue front shown roll
    → (old later : List Brought) (events : List Event) (front' : Beginning) (roll' : Counted)
    → old ≡ queue → front' ≡ longer_by front events → Stores old front later front'
    → IsCountOf roll' front'
    → IsDesked book from later front' shown roll'
desked_longer book from queue front shown roll h old later events front' roll' same longer stores
    counted = record {
      named = ap (λ (b : Beginning). b.of) longer ∙ h.named;
      from_named = h.from_named;
      shown_named = h.shown_named;
      brings = stores (whole from) (ap (all_taken (whole from)) same ∙ h.brings);
      counted = counted;
    }

-- all that was appended was taken
pub desked_taken : (book : Book) (from : Beginning) (queue queue' : List Brought)
    (front shown : Beginning) (roll : Counted) → IsDesked book from queue front shown roll
    → (from' : Beginning) → from' ≡ front → queue' ≡ []
    → IsDesked book from' queue' front shown roll
desked_taken book from queue queue' front shown roll h from' is empty = record {
  named = h.named;
  from_named = ap (λ (b : Beginning). b.of) is ∙ h.named;
  shown_named = h.shown_named;
  brings = ap (all_taken (whole from')) empty ∙ ap whole is;
  counted = h.counted;
}

-- what readers lack lies elsewhere, and is the same
pub pressed_moved : (book : Book) (shown shown' : Copied) (view view' : Option Beginning)
    (pending pending' queue queue' : List Brought) (front : Beginning)
    → IsPressed book shown view pending queue front → shown' ≡ shown → view' ≡ view
    → pending' ++ queue' ≡ pending ++ queue → IsPressed book shown' view' pending' queue' front
pressed_moved book shown shown' view view' pending pending' queue queue' front h same told kept =
    record {
      named = h.named;
      shown_named = ap (λ (x : Copied). x.at.of) same ∙ h.shown_named;
      told = subst (IsTold book) (sym told) h.told;
      brings = ap (λ (x : Copied). all_taken x (pending' ++ queue')) same
          ∙ (ap (all_taken shown) kept ∙ h.brings);
    }

-- readers lack nothing
pub pressed_whole : (book : Book) (shown : Copied) (view : Option Beginning)
    (pending queue : List Brought) (front : Beginning) → front.of ≡ book → shown ≡ whole front
    → view ≡ Some front → pending ≡ [] → queue ≡ [] → IsPressed book shown view pending queue front
pressed_whole book shown view pending queue front named all told none empty = record {
  named = named;
  shown_named = ap (λ (x : Copied). x.at.of) all ∙ named;
  told = subst (IsTold book) (sym told) named;
  brings = ap (λ (x : Copied). all_taken x (pending ++ queue)) all
      ∙ (ap (λ lacking. all_taken (whole front) (lacking ++ queue)) none
      ∙ ap (all_taken (whole front)) empty);
}

-- what was appended was taken over, where nothing was left
pub pressed_taken : (book : Book) (shown : Copied) (view : Option Beginning)
    (pending queue : List Brought) (before : Beginning)
    → IsPressed book shown view pending queue before → queue ≡ []
    → (more : List Brought) (front : Beginning) → front.of ≡ book
    → all_taken (whole before) more ≡ whole front → IsPressed book shown view pending more front
pressed_taken book shown view pending queue before h empty more front of brings =
    let all : all_taken shown pending ≡ whole before =
    sym (ap (all_taken (all_taken shown pending)) empty)
    ∙ (sym (fold-append taken shown pending queue) ∙ h.brings) in
    record {
      named = of;
      shown_named = h.shown_named;
      told = h.told;
      brings = fold-append taken shown pending more
          ∙ (ap (λ (x : Copied). all_taken x more) all ∙ brings);
    }

-- a seat that just sat down has that event alone
pub sits_alone : (b : Beginning) (roll : Counted) → IsCountOf roll b
    → AllCount b.config b.opening b.events
    → own roll.next_seat (b.events ++ event_at roll.next_seat 0 Sit ∷ [])
    ≡ event_at roll.next_seat 0 Sit ∷ []
sits_alone b roll is all =
    let fresh = (counts_own b.config b.opening b.events all).fresh roll.next_seat (let same =
    is.next_seat in omega arith) in
    let this : (roll.next_seat == roll.next_seat) ≡ true = grind (arith, nat_tests) in
    own-more roll.next_seat b.events (event_at roll.next_seat 0 Sit) true this
    ∙ ap (λ es. es ++ event_at roll.next_seat 0 Sit ∷ []) fresh

abbrev pub seated : ℕ → ℕ → Beginning → Seated
seated seat number seen = record { seat = seat; number = number; seen = seen }

-- what holds of a seat that sat down
pub sat_down : (k k' : Kept) (book : Book) (b b' : Beginning) (roll : Counted) (p : Seated)
    (seat : ℕ) → k.all ≡ b → k'.all ≡ b' → b.of ≡ book → IsCountOf roll b
    → AllCount b.config b.opening b.events → seat ≡ roll.next_seat
    → nat_lt (length roll.seats) MOST_SEATS ≡ true → roll.next_seat ≤ LAST_SEAT
    → b' ≡ longer b (event_at seat 0 Sit) → p ≡ record { seat = seat; number = 1; seen = b' }
    → k.stuck ≡ false → SitsDownIn k k' book p
sat_down k k' book b b' roll p seat k_is k'_is of is all seat_is free small b_is p_is runs =
    let e = event_at roll.next_seat 0 Sit in
    let whole : SitsDownIn k k' book (record {
      seat = roll.next_seat;
      number = 1;
      seen =
          longer b e;
    }) = record {
      sits = record {
        number = refl;
        own_is = sits_alone b roll is all;
        legal = legal-more b.config b.opening b.events (e ∷ []) all
            (ap (λ t. t && true) (sit_counts b roll is free small));
      };
      of = of;
      follows = record {
        same = ap (λ (c : Beginning). record c { events = b.events ++ e ∷ [] }) (sym k_is);
        events = subst (λ (c : Beginning). IsPrefix c.events (b.events ++ e ∷ [])) (sym k_is)
            (e ∷ [], refl);
      };
      all = k'_is ∙ (b_is ∙ ap (λ s. longer b (event_at s 0 Sit)) seat_is);
      runs = runs;
    } in
    let same : p ≡ record { seat = roll.next_seat; number = 1; seen = longer b e } =
    p_is ∙ (ap (λ (c : Beginning). record { seat = seat; number = 1; seen = c }) b_is
    ∙ ap (λ s. record { seat = s; number = 1; seen = longer b (event_at s 0 Sit) }) seat_is) in
    subst (SitsDownIn k k' book) (sym same) whole

-- ---- a fleet that was just opened

abbrev nobody : Option ℕ
nobody = None

none_all : (n i : ℕ) → get_or (replicate n nobody) i nobody ≡ nobody
none_all zero i = refl
none_all (suc n) zero = refl
none_all (suc n) (suc i) = none_all n i

-- nobody sits yet
pub nobody_counted : (b : Beginning) (roll : Counted) (n : ℕ) → b.events ≡ []
    → n ≡ length b.config.peers → roll ≡ record {
      seats = [];
      next_seat = 0;
      last =
          replicate n None;
    } → IsCountOf roll b
unfolding opened
nobody_counted b roll n none peers is =
    let state : state_of b.config b.opening b.events ≡ opened b.config b.opening =
    ap (state_of b.config b.opening) none ∙ no_events b.config b.opening in
    let whole : IsCountOf (record { seats = []; next_seat = 0; last = replicate n None }) b =
    record {
      seats = ap (λ s. s.seats) (sym state);
      next_seat = ap (λ s. s.next_seat) (sym state);
      peers = length-replicate n nobody ∙ peers;
      last = λ peer. none_all n peer ∙ ap (last_opener peer) (sym none);
    } in
    subst (λ (r : Counted). IsCountOf r b) (sym is) whole

-- a copy that was just opened
pub opened_whole : (x : Copied) (b : Beginning) → x.at ≡ b → x.state ≡ opened b.config b.opening
    → x.took ≡ record { config = x.state.config; opening = x.state.moment; events = [] }
    → b.events ≡ [] → x ≡ whole b
unfolding opened
opened_whole x b at state took none =
    let p : x.state ≡ state_of b.config b.opening b.events = state
    ∙ (sym (no_events b.config b.opening) ∙ ap (state_of b.config b.opening) (sym none)) in
    let q : x.took ≡ trail_to b = took ∙ λ i. record {
      config = (state i).config;
      opening = (state i).moment;
      events = (sym none) i;
    } in
    λ i. record { at = at i; state = p i; took = q i }

true_of : (b : Bool) → not b ≡ false → b ≡ true
true_of true is = refl
true_of false is = absurd (cc is)

-- a press that showed all that it took, or was refused, lies under the lock
pub rested : (from shown : Beginning) (press : Pressed) (showed : Bool) → press.taken ≡ from
    → shown ≡ press.shown.at → (showed ≡ true → press.shown ≡ whole press.taken)
    → IsRested from shown (not showed) press
rested from shown press showed taken_is shown_is all = record {
  taken = taken_is;
  shows = sym shown_is;
  whole_is = λ runs. all (true_of showed runs);
}

-- what was published is all that was taken
pub published : (before after : Pressed) (showed : Bool) → after.taken ≡ before.taken
    → after.shown ≡ (if showed then whole before.taken else before.shown) → showed ≡ true
    → after.shown ≡ whole after.taken
published before after true taken_is shown_is done = shown_is ∙ ap whole (sym taken_is)
published before after false taken_is shown_is done = absurd (cc done)

-- a press that has shown all that it took lies under the lock
pub rested_whole : (from shown front : Beginning) (stuck : Bool) (press : Pressed)
    → press.taken ≡ front → press.shown ≡ whole front → from ≡ front → shown ≡ press.shown.at
    → IsRested from shown stuck press
rested_whole from shown front stuck press taken_is all from_is shown_is = record {
  taken = taken_is ∙ sym from_is;
  shows = sym shown_is;
  whole_is = λ _. all ∙ ap whole (sym taken_is);
}

-- what lies under the lock of a new hub
pub desked_new : (book : Book) (queue : List Brought) (from front shown : Beginning)
    (roll : Counted) → front.of ≡ book → from ≡ front → shown ≡ front → queue ≡ []
    → IsCountOf roll front → IsDesked book from queue front shown roll
desked_new book queue from front shown roll of from_is shown_is none counted = record {
  named = of;
  from_named = ap (λ (b : Beginning). b.of) from_is ∙ of;
  shown_named = ap (λ (b : Beginning). b.of) shown_is ∙ of;
  brings = ap (all_taken (whole from)) none ∙ ap whole from_is;
  counted = counted;
}
