-- The copies of the book that readers enter, and what readers are told.
use Rattle.std.specs.Prelude.{◌≡◌, ℕ, Bool, List, Option, None, Some, fold}
use mathlib.Core.Option.{some}
use lib.ListN.{get_elem?}
use Rattle.agg_types.specs.declared.event.Event.{Event}
use Rattle.fleet_model.specs.Machine.{after}
use Rattle.fleet_model.specs.State.{IsStateOf, State, state_of}
use Rattle.hub.specs.History.{Beginning}
use Rattle.hub.specs.Trailed.{Trailed, further, trail_to}

-- a state, the beginning whose events came with it, and what was taken since the opening
pub record Copied : Type 0 where
  pub at : Beginning
  pub state : State
  pub took : Trailed

-- a copy, and whether it has a part of a batch beyond that
pub record Copy : Type 0 where
  pub copied : Copied
  pub part : Bool

-- events on their way into a copy as one, and the beginning that they end
pub record Brought : Type 0 where
  pub events : List Event
  pub at : Beginning

-- a copy after these events more
abbrev pub taken : Copied → Brought → Copied
taken x brought = record {
  at = brought.at;
  state = fold after x.state brought.events;
  took = further x.took brought.events;
}

abbrev pub all_taken : Copied → List Brought → Copied
all_taken x brought = fold taken x brought

-- the copy that has taken exactly a beginning
abbrev pub whole : Beginning → Copied
whole b = record { at = b; state = state_of b.config b.opening b.events; took = trail_to b }

-- a copy took exactly the events of its beginning, and is what recomputing from them gives
pub record IsWhole (x : Copied) : Type 0 where
  pub took : x.took ≡ trail_to x.at
  pub stands : IsStateOf x.state x.at.config x.at.opening x.at.events

-- who was told of a log reads that log
abbrev pub Fits : Copied → Option Beginning → Type 0
Fits x None = Unit {0}
Fits x (Some told) = told.of ≡ x.at.of

-- the copy is whole, and of the log that each was told of
abbrev pub Keeps : Copy → List (Option Beginning) → Type 0
Keeps x views = IsWhole x.copied
    × ((seat : ℕ) (v : Option Beginning) → get_elem? views seat ≡ some v → Fits x.copied v)

-- the copy y was found or shown, and is known from then on
abbrev pub Sees : Option Beginning → Copy → Copy → Option Beginning → Type 0
Sees v x y w = IsWhole y.copied × Fits y.copied v × (w ≡ Some y.copied.at)

-- what was put behind the queue brings a copy from one beginning to another
abbrev pub Stores : List Brought → Beginning → List Brought → Beginning → Type 0
Stores queue b later b' = (x : Copied) → all_taken x queue ≡ whole b → all_taken x later ≡ whole b'
