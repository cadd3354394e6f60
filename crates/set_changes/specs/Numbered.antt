-- What came into the sets of standing filters and what left them, by how many events there were.
use Rattle.std.specs.Prelude.{◌≡◌, ℕ, ◌≤◌, Bool, List, [], ◌∷◌, ◌++◌, Option, None, Some, filter}
use Rattle.std.specs.Prelude.{if◌then◌else◌, length, nat_lt, slice_index_or}
use Rattle.agg_types.specs.declared.config.Filter.{Filter}
use Rattle.agg_types.specs.declared.event.Event.{Event}
use Rattle.standing_filters.specs.Flips.{last_said, later_of}
use Rattle.standing_filters.specs.Turns.{same_key}
use Rattle.standing_filters.specs.declared.flips.Flip.{Flip}
use Rattle.set_changes.specs.declared.change.Change.{Change}

-- a filter's changes, of which all behind a number are known
pub record Logged : Type 0 where
  pub from : ℕ
  pub changes : List Change

-- the changes of each filter by its place, how many events there were, and from which number on
-- those are known of which none are kept
pub record Numbered : Type 0 where
  pub count : ℕ
  pub start : ℕ
  pub logs : List Logged

abbrev pub log_at : Numbered → ℕ → Logged
log_at numbered place =
    slice_index_or numbered.logs place (record { from = numbered.start; changes = [] })

-- those behind a number
abbrev pub since : ℕ → List Change → List Change
since number changes = filter (λ change. nat_lt number change.number) changes

-- what the last of some changes says of a key, if one is of it
abbrev pub said_of : List Change → List ℕ → Option Bool
said_of [] key = None
said_of (change ∷ changes) key = later_of
    (if same_key change.key key then Some change.is_in else None) (said_of changes key)

-- What filters stand behind a list of events, and whether the one at a place holds a key.
pub record Sets : Type 0 where
  pub filters : List Event → List Filter
  pub held : List Event → ℕ → List ℕ → Bool

-- What is said of a filter's set behind a list of events, on the way by more. The same filters
-- stand all the way. Where something is said of a key, it is what is held at the end; where nothing
-- is, the key was held all the way as at the start.
pub record Says (sets : Sets) (place : ℕ) (saying : List ℕ → Option Bool)
    (early late : List Event) : Type 0 where
  pub stay : (some others : List Event) → late ≡ some ++ others
      → sets.filters (early ++ some) ≡ sets.filters early
  pub said : (key : List ℕ) (v : Bool) → saying key ≡ Some v
      → sets.held (early ++ late) place key ≡ v
  pub unsaid : (key : List ℕ) → saying key ≡ None → (some others : List Event)
      → late ≡ some ++ others → sets.held (early ++ some) place key ≡ sets.held early place key

-- that of each filter by flips
abbrev pub FlipsSay : Sets → List Flip → List Event → List Event → Type 0
FlipsSay sets flips early late =
    (place : ℕ) → Says sets place (λ key. last_said flips place key) early late

-- These are the changes of a list of events: of each earlier list from which on they are known they
-- say all that came behind it.
pub record AreChangesOf (numbered : Numbered) (sets : Sets) (events : List Event) : Type 0 where
  pub count : numbered.count ≡ length events
  pub known : (place : ℕ) (early late : List Event) → events ≡ early ++ late
      → (log_at numbered place).from ≤ length early → Says sets place
      (λ key. said_of (since (length early) (log_at numbered place).changes) key) early late
