-- What a session gathers of the pushed tables for a turn.
use Rattle.std.specs.Prelude.{◌≡◌, ℕ, Bool, List, Some, map, slice_get}
use Rattle.agg_types.specs.Naming.{place_of}
use Rattle.fleet_model.specs.State.{State, state_of}
use Rattle.set_changes.specs.declared.change.Change.{Change}
use Rattle.pushed_keys.specs.declared.moved.Moved.{Moved}
use Rattle.pushed_keys.specs.declared.pushed.Pushed.{Pushed}
use Rattle.hub.specs.Changing.{SayBehind}
use Rattle.hub.specs.History.{Beginning}
use Rattle.hub.specs.Trailed.{trail_to}

-- the state behind all events of a list
abbrev pub state_behind : Beginning → State
state_behind seen = state_of seen.config seen.opening seen.events

-- these are the changes of a table since so many first events of a list
pub record AreSince (table : Pushed) (number : ℕ) (seen : Beginning) (changes : List Change)
    : Type 0 where
  pub place : ℕ
  pub named : place_of (λ filter. filter.name) (state_behind seen).config.filters table.name
      ≡ Some place
  pub since : SayBehind (trail_to seen) place number changes

-- what is said of a key
abbrev pub said_by_move : Moved → List ℕ × Bool
said_by_move move = (move.key.now, move.is_in)

abbrev pub said_by_change : Change → List ℕ × Bool
said_by_change change = (change.key, change.is_in)

-- moves say what changes do, in their order
abbrev pub AreMoves : List Moved → List Change → Type 0
AreMoves moves changes = map said_by_move moves ≡ map said_by_change changes

-- what moved in a table since so many first events of a list
pub record IsMovedSince (number : ℕ) (seen : Beginning) (table : Pushed) (moves : List Moved)
    : Type 0 where
  pub changes : List Change
  pub since : AreSince table number seen changes
  pub are : AreMoves moves changes

-- each of these has one of those at its place
abbrev pub Each : {A B : Type 0} → (A → B → Type 0) → List A → List B → Type 0
Each {A} {B} P xs ys = (place : ℕ) (x : A) → slice_get xs place ≡ Some x
    → (y : B) × (slice_get ys place ≡ Some y) × P x y
