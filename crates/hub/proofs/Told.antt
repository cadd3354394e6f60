-- What a book told of more events, beside the trail of those before.
use Rattle.std.proofs.Common.{◌≡◌, ℕ, Bool, false, List, [], ◌++◌, fold, length, refl}
use Rattle.std.proofs.Common.{sym, ap, ◌∙◌, subst, append-nil, Option, None, Some, Result, Ok, Err}
use Rattle.std.proofs.Common.{IfOk, IfSome, is_some}
use Rattle.std.specs.Prelude.{unwrap_or}
use Rattle.agg_types.specs.declared.config.Config.{Config}
use Rattle.agg_types.specs.declared.event.Event.{Event}
use Rattle.book.specs.Flips.{TellsAll, TellsAllIfKnown, held_in}
use Rattle.fleet_model.specs.Machine.{after}
use Rattle.fleet_model.specs.State.{IsStateOf, State, state_of}
use Rattle.set_changes.specs.Numbered.{AreChangesOf, FlipsSay, Numbered, Says, Sets, said_of}
use Rattle.set_changes.specs.declared.change.Change.{Change}
use Rattle.standing_filters.specs.Flips.{Flipped, last_said, none_yet}
use Rattle.standing_filters.specs.declared.flips.Flip.{Flip}
use Rattle.hub.specs.Begun.{took_on}
use Rattle.hub.specs.Changing.{AreKeptOf, SayBehind, sets_of}
use Rattle.hub.specs.Trailed.{StandsAt, Trailed, further}
use Rattle.hub.specs.declared.copies.Rest.{Rest}
use Rattle.hub.proofs.Trailing.{stands_on, state_and_more}

-- ---- what a book told, it told of the states that the events leave

-- the state behind some more events
state_at_more : (config : Config) (opening : ℕ) (early some : List Event) (state : State)
    → state ≡ state_of config opening early
    → state_of config opening (early ++ some) ≡ fold after state some
state_at_more config opening early some state is =
    state_and_more config opening early some ∙ ap (λ s. fold after s some) (sym is)

flips_told : (config : Config) (opening : ℕ) (early late : List Event) (state : State)
    (old new : Flipped) → state ≡ state_of config opening early → old ≡ none_yet
    → TellsAll state late old new → FlipsSay (sets_of config opening) new.flips early late
flips_told config opening early late state old new is none tells place =
    let at = λ (some : List Event). state_at_more config opening early some state is in
    let more : new.flips ≡ tells.more =
    tells.added ∙ ap (λ (f : Flipped). f.flips ++ tells.more) none in
    record {
      stay = λ some others split. ap (λ (s : State). s.config.filters) (at some)
          ∙ (tells.filters some others split ∙ ap (λ (s : State). s.config.filters) is);
      said = λ key v says. ap (λ (s : State). held_in s place key) (at late)
          ∙ tells.said place key v
          (ap (λ (fs : List Flip). last_said fs place key) (sym more) ∙ says);
      unsaid = λ key none some others split. ap (λ (s : State). held_in s place key) (at some)
          ∙ (tells.unsaid place key
          (ap (λ (fs : List Flip). last_said fs place key) (sym more) ∙ none) some others split
          ∙ ap (λ (s : State). held_in s place key) is);
    }

-- what noting flips of so many events does to the changes that are kept
abbrev pub Notes : Option Numbered → Option Numbered → Flipped → ℕ → Type 0
Notes kept later told events = (sets : Sets) (early late : List Event)
    → IfSome kept (λ n. AreChangesOf n sets early) → length late ≡ events
    → (told.lost ≡ false → FlipsSay sets told.flips early late)
    → IfSome later (λ n. AreChangesOf n sets (early ++ late))

-- A book took more events. They are behind its trail, and what it told of them among the changes.
pub moved_on : (book new : State) (trail later : Trailed) (kept kept' : Option Numbered)
    (more : List Event) (old told : Flipped) (events : ℕ) → StandsAt book trail
    → AreKeptOf kept trail → new ≡ fold after book more → later ≡ further trail more
    → (old.lost ≡ false → old ≡ none_yet) → TellsAllIfKnown book more old told
    → length more ≡ events
    → Notes kept kept' told events → StandsAt new later × AreKeptOf kept' later
unfolding IsStateOf
moved_on book new trail later kept kept' more old told events is are took notes none tells count
    noted =
    let stands = stands_on book new trail more is took in
    let keeps : AreKeptOf kept' (further trail more) =
    noted (sets_of trail.config trail.opening) trail.events more are count
    (λ known. flips_told trail.config trail.opening trail.events more book old told is
    (none (tells known).known) (tells known)) in
    (subst (StandsAt new) (sym notes) stands, subst (AreKeptOf kept') (sym notes) keeps)

-- ---- what is told of it

pub if_ok_some : {A E : Type 0} (P Q : A → Type 0) (r : Result (Option A) E)
    → ((a : A) → P a → Q a) → IfOk r (λ o. IfSome o P) → IfOk r (λ o. IfSome o Q)
if_ok_some P Q (Ok None) all h = h
if_ok_some P Q (Ok (Some a)) all h = all a h
if_ok_some P Q (Err e) all h = h

-- a copy that has no rest took what its trail says
pub took_whole : (trail : Trailed) (rest : Option Rest) → is_some rest ≡ false
    → trail ≡ took_on trail rest
took_whole trail None none = refl
took_whole trail (Some rest) none = absurd (cc none)

pub say_behind : (n : Numbered) (kept : Option Numbered) (trail took : Trailed)
    (place number : ℕ) (changes : List Change) → kept ≡ Some n → AreKeptOf kept trail
    → trail ≡ took
    → ((sets : Sets) (early late : List Event) → AreChangesOf n sets (early ++ late)
    → length early ≡ number → Says sets place (λ key. said_of changes key) early late)
    → SayBehind took place number changes
say_behind n kept trail took place number changes some are same say =
    let are' : AreChangesOf n (sets_of trail.config trail.opening) trail.events =
    subst (λ (o : Option Numbered). AreKeptOf o trail) some are in
    let behind : SayBehind trail place number changes =
    λ early late split count. say (sets_of trail.config trail.opening) early late
    (subst (AreChangesOf n (sets_of trail.config trail.opening)) split are') count in
    subst (λ (t : Trailed). SayBehind t place number changes) same behind

-- what is held at the end, by what is said of it
pub held_now : (sets : Sets) (place : ℕ) (changes : List Change) (early late : List Event)
    (key : List ℕ) → Says sets place (said_of changes) early late
    → sets.held (early ++ late) place key
    ≡ unwrap_or (said_of changes key) (sets.held early place key)
held_now sets place changes early late key says = by (said_of changes key) refl
  where
    by : (o : Option Bool) → said_of changes key ≡ o
        → sets.held (early ++ late) place key ≡ unwrap_or o (sets.held early place key)
    by (Some v) is = says.said key v is
    by None is = says.unsaid key is late [] (sym (append-nil late))
