-- What moved in a filter's set, all changes taken together.
use Rattle.std.specs.Prelude.{◌≡◌, ◌&&◌, ◌||◌, not, Bool, false, List, [], ◌∷◌, ℕ, Option}
use Rattle.std.specs.Prelude.{None, Some, if◌then◌else◌}
use Rattle.std.specs.Cmp.Lexicographic.{slice_cmp}
use Rattle.std.specs.List.{list_any}
use Rattle.std.specs.List.Sorted.{IsStrictlySortedBy}
use Rattle.std.specs.Ordering.{nat_cmp}
use Rattle.set_changes.specs.Numbered.{said_of}
use Rattle.set_changes.specs.declared.change.Change.{Change}
use Rattle.standing_filters.specs.Turns.{same_key}

-- what a change says of a key
abbrev pub said_by : Change → List ℕ → Option Bool
said_by change key = if same_key change.key key then Some change.is_in else None

-- the earlier of two sayings
abbrev pub earlier_of : Option Bool → Option Bool → Option Bool
earlier_of None later = later
earlier_of (Some said) later = Some said

-- what the first of some changes says of a key, if one is of it
abbrev pub first_of : List Change → List ℕ → Option Bool
first_of [] key = None
first_of (change ∷ changes) key = earlier_of (said_by change key) (first_of changes key)

-- whether a key came in, by what is said of it
abbrev pub is_in : Option Bool → Bool
is_in None = false
is_in (Some said) = said

-- whether it left
abbrev pub is_out : Option Bool → Bool
is_out None = false
is_out (Some said) = not said

-- A key entered where its first change and its last one are that it came in, and it left where both
-- are that it left. So one that came in and left again did neither.
abbrev pub has_entered : List Change → List ℕ → Bool
has_entered changes key = is_in (first_of changes key) && is_in (said_of changes key)

abbrev pub has_left : List Change → List ℕ → Bool
has_left changes key = is_out (first_of changes key) && is_out (said_of changes key)

abbrev pub has_key : List (List ℕ) → List ℕ → Bool
has_key keys key = list_any (same_key key) keys

abbrev pub AreOrdered : List (List ℕ) → Type 0
AreOrdered keys = IsStrictlySortedBy (slice_cmp nat_cmp) keys

-- these are the keys that entered by some changes, and those that left, each once and in order
pub record AreMoved (changes : List Change) (entered left : List (List ℕ)) : Type 0 where
  pub came : (key : List ℕ) → has_key entered key ≡ has_entered changes key
  pub went : (key : List ℕ) → has_key left key ≡ has_left changes key
  pub came_ordered : AreOrdered entered
  pub went_ordered : AreOrdered left

-- whether a set has a key once some entered and some left, where it had it or not before
abbrev pub applied : (entered left : List (List ℕ)) → List ℕ → Bool → Bool
applied entered left key held = has_key entered key || (held && not (has_key left key))

-- the first change of a key, if there is one, turned what was held
abbrev pub FirstTurns : List Change → List ℕ → Bool → Type 0
FirstTurns changes key held = (said : Bool) → first_of changes key ≡ Some said → held ≡ not said
