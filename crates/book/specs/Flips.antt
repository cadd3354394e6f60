-- What a book tells while it takes events: which keys come into its filters' sets and which leave.
use Rattle.std.specs.Prelude.{◌≡◌, ◌&&◌, ◌++◌, ◌-◌, ℕ, Bool, false, List, None, Some, fold}
use Rattle.std.specs.Prelude.{length, nat_lt, take}
use Rattle.agg_types.specs.declared.event.Event.{Event}
use Rattle.agg_types.specs.declared.event.What.{What}
use Rattle.fleet_model.specs.Answers.{filter_of}
use Rattle.fleet_model.specs.Keys.{holds}
use Rattle.fleet_model.specs.Machine.{after}
use Rattle.fleet_model.specs.State.{State}
use Rattle.standing_filters.specs.Flips.{Flipped, Tells, last_said}
use Rattle.standing_filters.specs.declared.flips.Flip.{Flip}
use Rattle.book.specs.Runs.{left_at}

-- whether the filter at a place of a state's configuration holds a key at the state's moment
abbrev pub held_in : State → ℕ → List ℕ → Bool
held_in state filter key = nat_lt filter (length state.config.filters)
    && holds state (filter_of state filter) key state.moment

-- What is told while events happen, one after the other: the same filters stand all the way. Where
-- the flips say something of a filter and a key, the last says what is held at the end. Where they
-- say nothing, it is held at each state on the way as at the start.
pub record TellsAll (state : State) (events : List Event) (old new : Flipped) : Type 0 where
  pub more : List Flip
  pub known : old.lost ≡ false
  pub added : new.flips ≡ old.flips ++ more
  pub filters : (some others : List Event) → events ≡ some ++ others
      → (fold after state some).config.filters ≡ state.config.filters
  pub said : (filter : ℕ) (key : List ℕ) (is_in : Bool)
      → last_said more filter key ≡ Some is_in
      → held_in (fold after state events) filter key ≡ is_in
  pub unsaid : (filter : ℕ) (key : List ℕ) → last_said more filter key ≡ None
      → (some others : List Event) → events ≡ some ++ others
      → held_in (fold after state some) filter key ≡ held_in state filter key

-- the same, unless the flips are lost
abbrev pub TellsAllIfKnown : State → List Event → Flipped → Flipped → Type 0
TellsAllIfKnown state events old new = new.lost ≡ false → TellsAll state events old new

-- of what is left of a run at one place, the events up to another one
abbrev pub part_of : ℕ → ℕ → List What → ℕ → ℕ → List Event
part_of seat first whats from to = take (to - from) (left_at seat first whats from)

-- what is told from one state to the next
pub record TellsStep (state later : State) (old new : Flipped) : Type 0 where
  pub filters : later.config.filters ≡ state.config.filters
  pub told : Tells (held_in state) (held_in later) old new

-- the same, unless the flips are lost
abbrev pub TellsStepIfKnown : State → State → Flipped → Flipped → Type 0
TellsStepIfKnown state later old new = new.lost ≡ false → TellsStep state later old new
