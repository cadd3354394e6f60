-- What came into sets and what left them makes of the sets that were told those that stand.
use Rattle.std.proofs.Common.{◌≡◌, ◌<◌, ◌++◌, ◌&&◌, ◌||◌, ℕ, zero, suc, Bool, true, false, List, []}
use Rattle.std.proofs.Common.{◌∷◌, length, Option, None, Some, IfSome, refl, sym, ap, subst, ◌∙◌}
use Rattle.std.proofs.Common.{append-nil, append_assoc, arith, if◌then◌else◌, nat_lt, unwrap_or}
use Rattle.std.proofs.lemmas.Bool.Decides.{nat_tests}
use Rattle.std.proofs.lemmas.Map.Text.{is_eq-slice_cmp}
use Rattle.std.proofs.lemmas.Option.{get_or_from_slice_get, slice_get-map}
use Rattle.std.specs.Option.{option_map, option_map_or}
use Rattle.std.specs.List.Sorted.{IsStrictlySortedBy}
use Rattle.std.specs.Prelude.{slice_get, slice_index_or}
use Rattle.std.specs.Str.{bytes_eq}
use Rattle.agg_types.specs.Naming.{place_of}
use Rattle.agg_types.specs.declared.config.Filter.{Filter}
use Rattle.agg_types.specs.declared.event.Event.{Event}
use Rattle.agg_types.proofs.Naming.{position-within}
use Rattle.fleet_model.specs.Answers.{filter_of, set_at}
use Rattle.fleet_model.specs.Keys.{holds}
use Rattle.fleet_model.specs.Laws.{IsOrdered, is_key_among}
use Rattle.fleet_model.specs.State.{IsStateOf, State, state_of}
use Rattle.fleet_model.proofs.KeyRows.{held-keys}
use Rattle.fleet_model.proofs.Order.{ordered}
use Rattle.standing_filters.specs.Flips.{later_of}
use Rattle.standing_filters.specs.Turns.{same_key}
use Rattle.set_changes.specs.Numbered.{Says, said_of as changed_of}
use Rattle.set_changes.specs.declared.change.Change.{Change}
use Rattle.book.specs.Flips.{held_in}
use Rattle.pushed_keys.specs.Moves.{AreInOrder, AreMovedTo, IsMovedTo, is_in, said_of, set_of}
use Rattle.pushed_keys.specs.declared.moved.Moved.{Moved}
use Rattle.pushed_keys.specs.declared.told.Mark.{Mark}
use Rattle.pushed_keys.specs.declared.pushed.Pushed.{Pushed}
use Rattle.telling.specs.Telling.{AreOrdered, table_at, told_after, turn_at, turn_messages}
use Rattle.telling.specs.Told.{Told}
use Rattle.telling.specs.Unsaid.{Unsaid, unsaid_messages}
use Rattle.telling.proofs.Brought.{marks_at}
use Rattle.telling.proofs.InOrder.{turned_ordered}
use Rattle.telling.proofs.Kept.{set_kept}
use Rattle.hub.specs.Changing.{sets_of}
use Rattle.hub.specs.History.{Beginning}
use Rattle.hub.specs.Posts.{Follows}
use Rattle.hub.specs.Views.{IsBookOf, Seeing}
use Rattle.hub.proofs.Showing.{later_on}
use Rattle.worker_frame.specs.declared.poster.Poster.{Poster}
use Rattle.peer_worker.specs.Gathering.{AreMoves, AreSince, Each, IsMovedSince, state_behind}
use Rattle.peer_worker.specs.Knowing.{Knows, KnowsAt, Pushing}
use Rattle.peer_worker.specs.Tellings.{Brings, HoldsLast, SeesMore, TurnsOver}
use Rattle.peer_worker.specs.Turns.{set_named, sets_in}

-- ---- what is said of a key

same_as_bytes : (a b : List ℕ) → same_key a b ≡ bytes_eq a b
same_as_bytes a b = is_eq-slice_cmp a b

later_or : (first second : Option Bool) (was : Bool)
    → unwrap_or (later_of first second) was ≡ unwrap_or second (unwrap_or first was)
later_or first None was = refl
later_or first (Some b) was = refl

-- moves say what their changes do
pub said_alike : (moves : List Moved) (changes : List Change) → AreMoves moves changes
    → (key : List ℕ) (was : Bool) → said_of key moves was ≡ unwrap_or (changed_of changes key) was
said_alike [] [] are key was = refl
said_alike [] (c ∷ changes) are key was = absurd (cc are)
said_alike (m ∷ moves) [] are key was = absurd (cc are)
said_alike (m ∷ moves) (c ∷ changes) are key was =
    let heads : (m.key.now, m.is_in) ≡ (c.key, c.is_in) = cc are in
    let key_is : m.key.now ≡ c.key = ap (λ (p : List ℕ × Bool). p.0) heads in
    let in_is : m.is_in ≡ c.is_in = ap (λ (p : List ℕ × Bool). p.1) heads in
    let same : bytes_eq key m.key.now ≡ same_key c.key key =
    ap (bytes_eq key) key_is ∙ (bytes_turned key c.key ∙ sym (same_as_bytes c.key key)) in
    let first : (if bytes_eq key m.key.now then m.is_in else was)
    ≡ unwrap_or (if same_key c.key key then Some c.is_in else None) was =
    ap (λ b. if b then m.is_in else was) same
    ∙ (ap (λ b. if same_key c.key key then b else was) in_is
    ∙ one_of (same_key c.key key) c.is_in was) in
    said_alike moves changes (cc are) key (if bytes_eq key m.key.now then m.is_in else was)
    ∙ (ap (unwrap_or (changed_of changes key)) first
    ∙ sym (later_or (if same_key c.key key then Some c.is_in else None) (changed_of changes key)
    was))
  where
    one_of : (b x was : Bool) → (if b then x else was) ≡ unwrap_or (if b then Some x else None) was
    one_of true x was = refl
    one_of false x was = refl

    bytes_turned : (a b : List ℕ) → bytes_eq a b ≡ bytes_eq b a
    bytes_turned [] [] = refl
    bytes_turned [] (y ∷ b) = refl
    bytes_turned (x ∷ a) [] = refl
    bytes_turned (x ∷ a) (y ∷ b) = grind (arith, nat_tests, bytes_turned a b)

-- ---- the sets of a state

-- where a filter has the name, a key is in its set exactly where the filter at its place holds it
named_holds : (state : State) (table : Pushed) (place : ℕ) (key : List ℕ) → IsOrdered state
    → place_of (λ filter. filter.name) state.config.filters table.name ≡ Some place
    → is_in key (set_named state table) ≡ held_in state place key
named_holds state table place key sorted named =
    let filtering : Filter = filter_of state place in
    let keys = set_at state filtering state.moment in
    let within : place < length state.config.filters =
    position-within (λ (f : Filter). bytes_eq f.name table.name) state.config.filters
    (Some place) (sym named) in
    let inside : nat_lt place (length state.config.filters) ≡ true = grind (arith, nat_tests) in
    ap (λ (found : Option ℕ). is_in key (option_map_or
    (λ place. set_at state (filter_of state place) state.moment) found [])) named
    ∙ (among_alike key keys
    ∙ ((held-keys state filtering state.moment sorted).exact key
    ∙ sym (ap (λ b. b && holds state filtering key state.moment) inside)))
  where
    among_alike : (key : List ℕ) (keys : List (List ℕ)) → is_in key keys ≡ is_key_among key keys
    among_alike key [] = refl
    among_alike key (k ∷ keys) =
        ap (λ b. b || is_in key keys) (sym (same_as_bytes key k))
        ∙ ap (λ b. same_key key k || b) (among_alike key keys)

named_ordered : (state : State) (table : Pushed) (place : ℕ) → IsOrdered state
    → place_of (λ filter. filter.name) state.config.filters table.name ≡ Some place
    → AreInOrder (set_named state table)
named_ordered state table place sorted named =
    subst (λ (found : Option ℕ). AreInOrder (option_map_or
    (λ place. set_at state (filter_of state place) state.moment) found [])) (sym named)
    (held-keys state (filter_of state place) state.moment sorted).in_order

-- the sets of a state are in order
sets_ordered : (pushed : List Pushed) (state : State) → IsOrdered state → (place : ℕ)
    → AreInOrder (slice_index_or (sets_in pushed state) place [])
unfolding IsStrictlySortedBy
sets_ordered [] state sorted place = tt
sets_ordered (table ∷ pushed) state sorted (suc place) = sets_ordered pushed state sorted place
sets_ordered (table ∷ pushed) state sorted zero =
    by (place_of (λ filter. filter.name) state.config.filters table.name) refl
  where
    by : (found : Option ℕ)
        → place_of (λ filter. filter.name) state.config.filters table.name ≡ found
        → AreInOrder (set_named state table)
    by None is =
        subst (λ (found : Option ℕ). AreInOrder (option_map_or
        (λ place. set_at state (filter_of state place) state.moment) found [])) (sym is) tt
    by (Some place) is = named_ordered state table place sorted is

-- moves since a list make the set that stood there the set behind all events
module _ (table : Pushed) (number : ℕ) (seen : Beginning) (changes : List Change)
    (moves : List Moved) (early late : List Event) (since : AreSince table number seen changes)
    (are : AreMoves moves changes) (split : seen.events ≡ early ++ late)
    (count : length early ≡ number) where
  abbrev pub start : State
  start = state_of seen.config seen.opening early

  says : Says (sets_of seen.config seen.opening) since.place (changed_of changes) early late
  says = since.since early late split count

  same : (state_behind seen).config.filters ≡ start.config.filters
  same = ap (λ events. (state_of seen.config seen.opening events).config.filters) split
      ∙ says.stay late [] (sym (append-nil late))

  named : place_of (λ filter. filter.name) start.config.filters table.name ≡ Some since.place
  named = ap (λ (fs : List Filter). place_of (λ filter. filter.name) fs table.name) (sym same)
      ∙ since.named

  at_start : (key : List ℕ) → is_in key (set_named start table) ≡ held_in start since.place key
  at_start key = named_holds start table since.place key
      (ordered seen.config seen.opening early) named

  at_end : (key : List ℕ) → is_in key (set_named (state_behind seen) table)
      ≡ held_in (state_of seen.config seen.opening (early ++ late)) since.place key
  at_end key = named_holds (state_behind seen) table since.place key
      (ordered seen.config seen.opening seen.events) since.named
      ∙ ap (λ events. held_in (state_of seen.config seen.opening events) since.place key) split

  moved : (key : List ℕ) (found : Option Bool) → changed_of changes key ≡ found
      → is_in key (set_named (state_behind seen) table)
      ≡ said_of key moves (is_in key (set_named start table))
  moved key None is =
      at_end key
      ∙ (says.unsaid key is late [] (sym (append-nil late))
      ∙ (sym (at_start key)
      ∙ sym (said_alike moves changes are key (is_in key (set_named start table))
      ∙ ap (λ b. unwrap_or b (is_in key (set_named start table))) is)))
  moved key (Some v) is =
      at_end key
      ∙ (says.said key v is
      ∙ sym (said_alike moves changes are key (is_in key (set_named start table))
      ∙ ap (λ b. unwrap_or b (is_in key (set_named start table))) is))

  pub moved_set : IsMovedTo moves (set_named start table) (set_named (state_behind seen) table)
  moved_set = record {
    was = named_ordered start table since.place (ordered seen.config seen.opening early) named;
    is = named_ordered (state_behind seen) table since.place
        (ordered seen.config seen.opening seen.events) since.named;
    moved = λ key. moved key (changed_of changes key) refl;
  }

-- the place of a filter in the book of a list
pub named_in : (book : State) (seen : Beginning) (place : Option ℕ) (found : ℕ) (name : List ℕ)
    → IsBookOf book seen → place ≡ place_of (λ filter. filter.name) book.config.filters name
    → place ≡ Some found
    → place_of (λ filter. filter.name) (state_behind seen).config.filters name ≡ Some found
unfolding IsStateOf
named_in book seen place found name is named there =
    ap (λ (s : State). place_of (λ filter. filter.name) s.config.filters name) (sym is)
    ∙ (sym named ∙ there)

-- ---- all tables

pub each_none : {A B : Type 0} (P : A → B → Type 0) → Each P [] []
each_none P place x h = absurd (cc h)

pub each_more : {A B : Type 0} (P : A → B → Type 0) (xs : List A) (ys : List B) (x : A) (y : B)
    → length ys ≡ length xs → Each P xs ys → P x y → Each P (xs ++ x ∷ []) (ys ++ y ∷ [])
each_more P [] [] x y same each one zero z h = (y, refl, subst (λ a. P a y) (cc h) one)
each_more P [] [] x y same each one (suc place) z h = absurd (cc h)
each_more P [] (b ∷ ys) x y same each one place z h = absurd (omega arith)
each_more P (a ∷ xs) [] x y same each one place z h = absurd (omega arith)
each_more P (a ∷ xs) (b ∷ ys) x y same each one zero z h = each zero z h
each_more P (a ∷ xs) (b ∷ ys) x y same each one (suc place) z h =
    each_more P xs ys x y (omega arith) (λ p. each (suc p)) one place z h

get_there : {A : Type 0} (xs : List A) (place : ℕ) → place < length xs
    → (x : A) × (slice_get xs place ≡ Some x)
get_there [] place l = absurd (omega arith)
get_there (x ∷ xs) zero l = (x, refl)
get_there (x ∷ xs) (suc place) l = get_there xs place (omega arith)

-- the set of a table, by its place
pub set_of_place : (pushed : List Pushed) (state : State) (place : ℕ) (table : Pushed)
    → slice_get pushed place ≡ Some table
    → slice_index_or (sets_in pushed state) place [] ≡ set_named state table
set_of_place pushed state place table h =
    get_or_from_slice_get (sets_in pushed state) place (set_named state table) []
    (slice_get-map (set_named state) pushed place ∙ ap (option_map (set_named state)) h)

-- what moved since the last turn makes what was told the sets
pub all_moved : (pushed : List Pushed) (told : Told) (number : ℕ) (seen : Beginning)
    (moves : List (List Moved))
    → Each (λ table moves. IsMovedSince number seen table moves) pushed moves
    → KnowsAt pushed told number seen
    → AreMovedTo pushed moves told.tables (sets_in pushed (state_behind seen))
all_moved pushed told number seen moves since knows place within =
    let at = get_there pushed place within in
    let table : Pushed = at.0 in
    let found = since place table at.1 in
    let moved : IsMovedSince number seen table found.0 = found.2 in
    let start = state_of seen.config seen.opening knows.early in
    let marks = (table_at told place).marks in
    let sets = sets_in pushed (state_behind seen) in
    let one : IsMovedTo found.0 (set_named start table) (set_named (state_behind seen) table) =
    moved_set table number seen moved.changes found.0 knows.early knows.late moved.since
    moved.are knows.split knows.count in
    record {
      ordered = knows.ordered place table at.1;
      moved = subst (λ (ms : List Moved).
          IsMovedTo ms (set_of marks) (slice_index_or sets place []))
          (sym (get_or_from_slice_get moves place found.0 [] found.1))
          (subst (λ (told : List (List ℕ)). IsMovedTo found.0 told (slice_index_or sets place []))
          (sym (knows.sets place table at.1))
          (subst (λ (set : List (List ℕ)). IsMovedTo found.0 (set_named start table) set)
          (sym (set_of_place pushed (state_behind seen) place table at.1)) one));
    }

-- ---- what is known

pub knows_on : (pushed : List Pushed) (told : Told) (number : Option ℕ) (seen later : Beginning)
    → Follows seen later → Knows pushed told number seen → Knows pushed told number later
knows_on pushed told None seen later follows knows = knows
knows_on pushed told (Some n) seen later follows knows = record {
  early = knows.early;
  late = knows.late ++ follows.events.0;
  split = sym follows.events.1
      ∙ (ap (λ es. es ++ follows.events.0) knows.split
      ∙ append_assoc knows.early knows.late follows.events.0);
  count = knows.count;
  ordered = knows.ordered;
  sets = λ place table h. knows.sets place table h
      ∙ ap (λ (b : Beginning). set_named (state_of b.config b.opening knows.early) table)
      (sym follows.same);
}

-- that the marks are in order is known in any case
pub knows_ordered : (pushed : List Pushed) (told : Told) (number : Option ℕ) (seen : Beginning)
    → Knows pushed told number seen → AreOrdered pushed told
knows_ordered pushed told None seen knows = knows
knows_ordered pushed told (Some n) seen knows = knows.ordered

-- after a turn over the whole of a list
pub knows_turned : (pushed : List Pushed) (old new : Told) (now : ℕ) (seen : Beginning)
    → AreOrdered pushed old
    → new ≡ told_after pushed (sets_in pushed (state_behind seen)) now old
    → KnowsAt pushed new (length seen.events) seen
knows_turned pushed old new now seen before is = record {
  early = seen.events;
  late = [];
  split = sym (append-nil seen.events);
  count = refl;
  ordered = subst (λ (t : Told). AreOrdered pushed t) (sym is)
      (turned_ordered pushed (sets_in pushed (state_behind seen)) now old
      (sets_ordered pushed (state_behind seen)
      (ordered seen.config seen.opening seen.events)) before);
  sets = λ place table h.
      ap (λ (t : Told). set_of (table_at t place).marks) is
      ∙ (ap (λ (ms : List Mark). set_of ms)
      (marks_at pushed (sets_in pushed (state_behind seen)) now old place table h)
      ∙ (set_kept table (turn_at now old)
      (slice_index_or (sets_in pushed (state_behind seen)) place []) (table_at old place).marks
      ∙ set_of_place pushed (state_behind seen) place table h));
}

-- a turn over what moved brings what was told to the sets
pub moved_brings : (pushed : List Pushed) (old new : Told) (seen : Beginning) (number : ℕ)
    (moves : List (List Moved)) (book : State) (now : ℕ) (unsaid : Unsaid) → IsBookOf book seen
    → Each (λ table moves. IsMovedSince number seen table moves) pushed moves
    → KnowsAt pushed old number seen → now ≡ book.moment
    → ((sets : List (List (List ℕ))) → AreMovedTo pushed moves old.tables sets
    → unsaid_messages pushed unsaid ≡ turn_messages pushed sets now old)
    → ((sets : List (List (List ℕ))) → AreMovedTo pushed moves old.tables sets
    → new ≡ told_after pushed sets now old) → Brings pushed old new seen unsaid
unfolding IsStateOf
moved_brings pushed old new seen number moves book now unsaid is since knows now_is says told =
    let are : AreMovedTo pushed moves old.tables (sets_in pushed book) =
    subst (λ (s : State). AreMovedTo pushed moves old.tables (sets_in pushed s)) (sym is)
    (all_moved pushed old number seen moves since knows) in
    record {
      book = book;
      stands = is;
      says = says (sets_in pushed book) are
          ∙ ap (λ t. turn_messages pushed (sets_in pushed book) t old) now_is;
      told = told (sets_in pushed book) are
          ∙ ap (λ t. told_after pushed (sets_in pushed book) t old) now_is;
    }

-- and then the sets are known
pub knows_brought : (pushed : List Pushed) (old new : Told) (seen : Beginning) (unsaid : Unsaid)
    → AreOrdered pushed old → Brings pushed old new seen unsaid
    → KnowsAt pushed new (length seen.events) seen
unfolding IsStateOf
knows_brought pushed old new seen unsaid before brings =
    knows_turned pushed old new brings.book.moment seen before
    (brings.told ∙ ap (λ (s : State). told_after pushed (sets_in pushed s) brings.book.moment old)
    brings.stands)

-- ---- a turn

holds_on : (poster : Option Poster) (shown later : Beginning) → Follows shown later
    → HoldsLast poster shown → HoldsLast poster later
holds_on None shown later follows holds = tt
holds_on (Some poster) shown later follows holds = last poster.last holds
  where
    last : (list : Option Beginning) → IfSome list (λ list. Follows list shown)
        → IfSome list (λ list. Follows list later)
    last None h = tt
    last (Some list) h = later_on list shown later h follows

-- a lens has seen more behind a look, as what was posted was learned before it
pub sees_later : (old new : Option Seeing) (lens shown later : Seeing) → old ≡ Some lens
    → new ≡ Some later → Follows lens.seen shown.seen → Follows shown.seen later.seen
    → SeesMore old new
sees_later old new lens shown later had has learned looked =
    subst (λ (l : Option Seeing). SeesMore l new) (sym had)
    (later, has, later_on lens.seen shown.seen later.seen learned looked)

-- a turn was made, by the lens before it, as what was posted was learned, and behind the look
pub turns_over : (old new : Pushing) (poster : Option Poster) (lens shown later : Seeing)
    → unsaid_messages old.pushed old.unsaid ≡ [] → old.lens ≡ Some lens → new.lens ≡ Some later
    → Follows lens.seen shown.seen → HoldsLast poster shown.seen → Follows shown.seen later.seen
    → Brings old.pushed old.teller new.teller later.seen new.unsaid → TurnsOver old new poster
turns_over old new poster lens shown later said had has learned holds looked brings = record {
  lens = lens;
  later = later;
  said = said;
  had = had;
  has = has;
  follows = later_on lens.seen shown.seen later.seen learned looked;
  holds = holds_on poster shown.seen later.seen looked holds;
  brings = brings;
}
