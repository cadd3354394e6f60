-- What the updates of a run leave, of which each puts a row and the seat is counted up behind them.
use Rattle.std.proofs.Common.{◌≡◌, ℕ, ◌+◌, ◌<◌, Bool, true, false, cond, ◌&&◌, nat_lt, List, ◌∷◌}
use Rattle.std.proofs.Common.{Option, None, Some, T, drop, fold, length, refl, sym, ap, ◌∙◌, subst}
use Rattle.std.proofs.Common.{arith, suc, [], ◌++◌, append_assoc, inl}
use Rattle.std.proofs.lemmas.List.Sums.{fold-append}
use Rattle.std.proofs.lemmas.Bool.Decides.{nat_tests}
use Rattle.std.proofs.lemmas.Cmp.{nat_cmp_total}
use Rattle.std.proofs.lemmas.Map.Lookups.{exact_unsigned}
use Rattle.std.specs.BTreeMap.{insert_entry, is_at}
use Rattle.std.specs.Cmp.{nat_cmp_is}
use Rattle.std.specs.FinMap.Entries.{is_sorted}
use Rattle.std.specs.Map.{lookup}
use Rattle.std.specs.Ordering.{is_eq, nat_cmp}
use Rattle.std.specs.declared.cmp.Ordering.TheVariants.{Equal}
use Rattle.agg_types.specs.declared.event.Event.{Event}
use Rattle.agg_types.specs.declared.event.What.{What}
use Rattle.agg_types.specs.declared.event.What.TheVariants.{Sit, Open, Put, Clear, AddFilter}
use Rattle.agg_types.specs.declared.event.What.TheVariants.{DropFilter, Moment, Leave}
use Rattle.agg_types.specs.declared.lent_what.LentWhat.{LentWhat}
use Rattle.agg_types.specs.declared.lent_what.LentWhat.TheVariants as lent
use Rattle.agg_types.specs.declared.limits.TheConstants.{NUMBERS_END}
use Rattle.agg_types.specs.Whats.{as_what}
use Rattle.fleet_model.proofs.Entries.{equal_from, lookup-insert, same_lookups, sorted-insert}
use Rattle.fleet_model.proofs.Every.{ordered-insert, sorted_from}
use Rattle.fleet_model.proofs.Sound.{sound_after}
use Rattle.fleet_model.specs.Machine.{after, counts_now, event_of, happened, number_of, with_put}
use Rattle.fleet_model.specs.Seats.{is_number, numbered}
use Rattle.fleet_model.specs.Sound.{IsSound}
use Rattle.fleet_model.specs.State.{State}
use Rattle.standing_filters.specs.Watched.{AllWatched}
use Rattle.book.proofs.Following.{follows}
use Rattle.book.specs.Verdicts.{ChangesTable, Follows, IsBook}
use Rattle.book.specs.Runs.{IsPartApplied}
use Rattle.book_machine.specs.Turns.{IsLentInto, IsPutOf, IsTurn, IsUpdateOf, counted_to}
use Rattle.book.specs.Runs.{left_at}
use Rattle.book_machine.specs.Turns.{with_update}

abbrev Numbers : Type 0
Numbers = List (ℕ × ℕ)

-- ---- a number that is written at a seat
written : (seat n q : ℕ) (es : Numbers)
    → lookup (is_at (nat_cmp q)) (insert_entry nat_cmp es seat n)
    ≡ cond (is_eq (nat_cmp q seat)) (Some n) (lookup (is_at (nat_cmp q)) es)
written seat n q es = lookup-insert nat_cmp nat_cmp_total exact_unsigned q es seat n

once : (b : Bool) (m n : ℕ) (o : Option ℕ)
    → cond b (Some n) (cond b (Some m) o) ≡ cond b (Some n) o
once true m n o = refl
once false m n o = refl

pub in_order : (es : Numbers) (seat n : ℕ) → T (is_sorted nat_cmp es)
    → T (is_sorted nat_cmp (insert_entry nat_cmp es seat n))
in_order es seat n h = sorted-insert nat_cmp nat_cmp_total exact_unsigned es seat n h

-- the later one of two stays
pub last_stays : (es : Numbers) (seat m n : ℕ) → T (is_sorted nat_cmp es)
    → insert_entry nat_cmp (insert_entry nat_cmp es seat m) seat n ≡ insert_entry nat_cmp es seat n
last_stays es seat m n h =
    same_lookups nat_cmp nat_cmp_total exact_unsigned
    (insert_entry nat_cmp (insert_entry nat_cmp es seat m) seat n) (insert_entry nat_cmp es seat n)
    (in_order (insert_entry nat_cmp es seat m) seat n (in_order es seat m h)) (in_order es seat n h)
    (λ q. written seat n q (insert_entry nat_cmp es seat m)
    ∙ ap (cond (is_eq (nat_cmp q seat)) (Some n)) (written seat m q es)
    ∙ once (is_eq (nat_cmp q seat)) m n (lookup (is_at (nat_cmp q)) es)
    ∙ sym (written seat n q es))

found_at : (es : Numbers) (seat n q : ℕ) → lookup (is_at (nat_cmp seat)) es ≡ Some n
    → cond (is_eq (nat_cmp q seat)) (Some n) (lookup (is_at (nat_cmp q)) es)
    ≡ lookup (is_at (nat_cmp q)) es
found_at es seat n q found = by (is_eq (nat_cmp q seat)) refl
  where
    by : (b : Bool) → is_eq (nat_cmp q seat) ≡ b
        → cond b (Some n) (lookup (is_at (nat_cmp q)) es) ≡ lookup (is_at (nat_cmp q)) es
    by true same = sym (ap (λ (k : ℕ). lookup (is_at (nat_cmp k)) es)
        (exact_unsigned q seat (equal_from (nat_cmp q seat) same)) ∙ found)
    by false other = refl

-- the one that is there may be written again
pub same_stays : (es : Numbers) (seat n : ℕ) → T (is_sorted nat_cmp es)
    → lookup (is_at (nat_cmp seat)) es ≡ Some n → insert_entry nat_cmp es seat n ≡ es
same_stays es seat n h found =
    same_lookups nat_cmp nat_cmp_total exact_unsigned (insert_entry nat_cmp es seat n) es
    (in_order es seat n h) h (λ q. written seat n q es ∙ found_at es seat n q found)

due_is : (due : Option ℕ) (n : ℕ) → is_number due n ≡ true → due ≡ Some n
due_is None n is = cc
due_is (Some m) n is = let same : m ≡ n = grind (arith, nat_tests) in ap Some same

number_counted : (s : State) (seat n : ℕ) → number_of (counted_to s seat n) seat ≡ Some n
number_counted s seat n =
    written seat n seat s.seats
    ∙ ap (λ r. cond (is_eq r) (Some n) (lookup (is_at (nat_cmp seat)) s.seats))
    (sym (nat_cmp_is seat seat Equal refl))

-- as many events happen as what happens
pub length-numbered : (seat n : ℕ) (whats : List What)
    → length (numbered seat n whats) ≡ length whats
length-numbered seat n [] = refl
length-numbered seat n (what ∷ whats) = ap suc (length-numbered seat (n + 1) whats)

-- ---- a state whose seat is counted to a number
pub sound_counted : (s : State) (seat n : ℕ) → IsSound s → IsSound (counted_to s seat n)
sound_counted s seat n h = record {
  checked = h.checked;
  in_range = h.in_range;
  ordered = record {
    rows = h.ordered.rows;
    sessions = h.ordered.sessions;
    seats = ordered-insert nat_cmp nat_cmp_total exact_unsigned s.seats seat n h.ordered.seats;
  };
  live = h.live;
  within_sizes = h.within_sizes;
  within_bound = h.within_bound;
  rows = h.rows;
}

pub book_counted : (s : State) (seat n : ℕ) (standing : AllWatched) → IsBook s standing
    → IsBook (counted_to s seat n) standing
book_counted s seat n standing h = record {
  sound = sound_counted s seat n h.sound;
  held = record { filters = h.held.filters; judged = h.held.judged };
}

-- a seat's number may be counted to what it is
pub turn_counted : (s : State) (seat n peer : ℕ) (opener : Option ℕ) → IsSound s
    → IsTurn s seat n peer opener → counted_to s seat n ≡ s
turn_counted s seat n peer opener sound turn =
    ap (λ (seats : Numbers). record s { seats = seats })
    (same_stays s.seats seat n (sorted_from nat_cmp s.seats sound.ordered.seats)
    (due_is (number_of s seat) n turn.due))

-- ---- an update
counted_next : (n : ℕ) (due : Option ℕ) → due ≡ Some n → n < NUMBERS_END
    → is_number due n && nat_lt n NUMBERS_END ≡ true
counted_next n due is small = rw is (grind (arith, nat_tests))

-- it counts, and is the row and one more event of its seat
update_counts : (s : State) (seat n peer : ℕ) (what : What) → IsUpdateOf s.config peer what
    → n < NUMBERS_END → counts_now (counted_to s seat n) (event_of seat n what) ≡ true
unfolding counts_now
update_counts s seat n peer Sit update small = absurd update.put
update_counts s seat n peer (Open other) update small = absurd update.put
update_counts s seat n peer (Put other table key life cells) update small =
    let next : is_number (number_of (counted_to s seat n) seat) n && nat_lt n NUMBERS_END ≡ true =
    counted_next n (number_of (counted_to s seat n) seat) (number_counted s seat n) small in
    ap (λ b. b && (is_number (number_of (counted_to s seat n) seat) n
    && nat_lt n NUMBERS_END)) update.fits ∙ next
update_counts s seat n peer (Clear table sel) update small = absurd update.put
update_counts s seat n peer (AddFilter filter) update small = absurd update.put
update_counts s seat n peer (DropFilter name) update small = absurd update.put
update_counts s seat n peer (Moment moment) update small = absurd update.put
update_counts s seat n peer Leave update small = absurd update.put

pub update_after : (s : State) (seat n peer : ℕ) (what : What) → IsSound s
    → IsUpdateOf s.config peer what → n < NUMBERS_END
    → after (counted_to s seat n) (event_of seat n what)
    ≡ counted_to (with_update s seat what) seat (n + 1)
unfolding after happened with_put
update_after s seat n peer Sit sound update small = absurd update.put
update_after s seat n peer (Open other) sound update small = absurd update.put
update_after s seat n peer (Put other table key life cells) sound update small =
    let what : What = Put other table key life cells in
    ap (λ b. cond b (happened (counted_to s seat n) (event_of seat n what) what)
    (counted_to s seat n)) (update_counts s seat n peer what update small)
    ∙ ap (λ (seats : Numbers). record (with_update s seat what) { seats = seats })
    (last_stays s.seats seat n (n + 1) (sorted_from nat_cmp s.seats sound.ordered.seats))
update_after s seat n peer (Clear table sel) sound update small = absurd update.put
update_after s seat n peer (AddFilter filter) sound update small = absurd update.put
update_after s seat n peer (DropFilter name) sound update small = absurd update.put
update_after s seat n peer (Moment moment) sound update small = absurd update.put
update_after s seat n peer Leave sound update small = absurd update.put

first_after : (s : State) (seat peer : ℕ) (what : What) → IsSound s → IsUpdateOf s.config peer what
    → after (counted_to s seat 0) (event_of seat 0 what)
    ≡ counted_to (with_update s seat what) seat 1
first_after s seat peer what sound update =
    update_after s seat 0 peer what sound update (omega arith)

-- what is sound without the numbers of seats
pub sound_update : (s : State) (seat peer : ℕ) (what : What) → IsSound s
    → IsUpdateOf s.config peer what → IsSound (with_update s seat what)
sound_update s seat peer what sound update =
    let later : IsSound (counted_to (with_update s seat what) seat 1) =
    subst IsSound (first_after s seat peer what sound update)
    (sound_after (counted_to s seat 0) (event_of seat 0 what) (sound_counted s seat 0 sound)) in
    record {
      checked = later.checked;
      in_range = later.in_range;
      ordered = record {
        rows = later.ordered.rows;
        sessions = later.ordered.sessions;
        seats = sound.ordered.seats;
      };
      live = later.live;
      within_sizes = later.within_sizes;
      within_bound = later.within_bound;
      rows = later.rows;
    }

put_moved : (peer : ℕ) (what : What) (s t : State) (seat m n : ℕ) → IsPutOf peer what
    → Follows what (counted_to s seat m) (counted_to t seat n) → Follows what s t
put_moved peer Sit s t seat m n put h = absurd put
put_moved peer (Open other) s t seat m n put h = absurd put
put_moved peer (Put other table key life cells) s t seat m n put h = record {
  config = h.config;
  moment = h.moment;
  others = h.others;
}
put_moved peer (Clear table sel) s t seat m n put h = absurd put
put_moved peer (AddFilter filter) s t seat m n put h = absurd put
put_moved peer (DropFilter name) s t seat m n put h = absurd put
put_moved peer (Moment moment) s t seat m n put h = absurd put
put_moved peer Leave s t seat m n put h = absurd put

-- what verdicts rest on changes as little as by the event
pub follows_update : (s : State) (seat peer : ℕ) (what : What) → IsSound s
    → IsUpdateOf s.config peer what → Follows what s (with_update s seat what)
follows_update s seat peer what sound update =
    put_moved peer what s (with_update s seat what) seat 0 1 update.put
    (subst (Follows what (counted_to s seat 0)) (first_after s seat peer what sound update)
    (follows (counted_to s seat 0) (event_of seat 0 what) (sound_counted s seat 0 sound)
    (update_counts s seat 0 peer what update (omega arith))))

-- an update of a table changes no other's rows
pub update_changes : (table : ℕ) (what : LentWhat) (state later : State) → IsLentInto table what
    → Follows (as_what what) state later → ChangesTable table state later
update_changes table (lent.Put peer own key life cells) state later into follows = record {
  config = follows.config;
  moment = follows.moment;
  others = λ t other apart. follows.others t other (inl (λ same. apart (same ∙ into)));
}
update_changes table (lent.Other what) state later into follows = absurd into

-- ---- what is left of a run
-- nothing has been applied yet
unfoldable pub part_none : (seat first place : ℕ) (whats : List What) (old new : State) → new ≡ old
    → IsPartApplied seat first whats place place old new
part_none seat first place whats old new same = record { part = []; whole = refl; applied = same }

-- one event more
unfoldable pub part_more : (seat first from to : ℕ) (whats : List What) (what : What)
    (old state new : State)
    → IsPartApplied seat first whats from to old state
    → drop to whats ≡ what ∷ drop (to + 1) whats
    → new ≡ after state (event_of seat (first + to) what)
    → IsPartApplied seat first whats from (to + 1) old new
part_more seat first from to whats what old state new before is turned =
    let e : Event = event_of seat (first + to) what in
    let count : (first + to) + 1 ≡ first + (to + 1) = omega arith in
    record {
      part = before.part ++ e ∷ [];
      whole = before.whole
          ∙ ap (λ ws. before.part ++ numbered seat (first + to) ws) is
          ∙ ap (λ n. before.part ++ e ∷ numbered seat n (drop (to + 1) whats)) count
          ∙ sym (append_assoc before.part (e ∷ []) (left_at seat first whats (to + 1)));
      applied = turned ∙ ap (λ (s : State). after s e) before.applied
          ∙ sym (fold-append after old before.part (e ∷ []));
    }

-- one part and the next
unfoldable pub part_on : (seat first from at to : ℕ) (whats : List What) (old state new : State)
    → IsPartApplied seat first whats from at old state
    → IsPartApplied seat first whats at to state new
    → IsPartApplied seat first whats from to old new
part_on seat first from at to whats old state new before then = record {
  part = before.part ++ then.part;
  whole = before.whole ∙ ap (λ es. before.part ++ es) then.whole
      ∙ sym (append_assoc before.part then.part (left_at seat first whats to));
  applied = then.applied ∙ ap (λ (s : State). fold after s then.part) before.applied
      ∙ sym (fold-append after old before.part then.part);
}

-- an update more of a state whose seat isn't counted up
pub update_more : (seat first from to peer : ℕ) (whats : List What) (what : What)
    (old state : State) → IsSound state → IsUpdateOf state.config peer what
    → first + to < NUMBERS_END
    → IsPartApplied seat first whats from to old (counted_to state seat (first + to))
    → drop to whats ≡ what ∷ drop (to + 1) whats
    → IsPartApplied seat first whats from (to + 1) old
    (counted_to (with_update state seat what) seat (first + (to + 1)))
update_more seat first from to peer whats what old state sound update small before is =
    let count : first + (to + 1) ≡ (first + to) + 1 = omega arith in
    part_more seat first from to whats what old (counted_to state seat (first + to))
    (counted_to (with_update state seat what) seat (first + (to + 1))) before is
    (ap (counted_to (with_update state seat what) seat) count
    ∙ sym (update_after state seat (first + to) peer what sound update small))
