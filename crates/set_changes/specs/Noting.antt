-- What is noted of a flip, and of some.
use Rattle.std.specs.Prelude.{◌≡◌, ℕ, ◌≤◌, ◌<◌, List, [], ◌∷◌, ◌++◌}
use Rattle.std.specs.List.{All}
use Rattle.std.specs.List.Sorted.{IsNonDecreasingBy}
use Rattle.standing_filters.specs.Flips.{last_said, later_of}
use Rattle.standing_filters.specs.declared.flips.Flip.{Flip}
use Rattle.set_changes.specs.Numbered.{Logged, Numbered, log_at, said_of, since}
use Rattle.set_changes.specs.declared.change.Change.{Change}

-- the numbers of changes rise
abbrev pub IsRising : List Change → Type 0
IsRising changes = IsNonDecreasingBy (λ change. change.number) changes

-- what holds of a filter's changes while there were so many events
pub record IsKept (count : ℕ) (log : Logged) : Type 0 where
  pub from : log.from ≤ count
  pub recent : All (λ change. change.number ≤ count) log.changes
  pub rising : IsRising log.changes

-- and of those of all filters
pub record AreKept (numbered : Numbered) : Type 0 where
  pub start : numbered.start ≤ numbered.count
  pub logs : All (IsKept numbered.count) numbered.logs

-- a change stands behind the others, of each number from which on they are known
pub record IsNoted (change : Change) (old new : Logged) : Type 0 where
  pub up : old.from ≤ new.from
  pub behind : (number : ℕ) → new.from ≤ number → number < change.number
      → since number new.changes ≡ since number old.changes ++ change ∷ []

-- flips stand behind all that was known
pub record Takes (flips : List Flip) (old new : Numbered) : Type 0 where
  pub count : new.count ≡ old.count
  pub up : (place : ℕ) → (log_at old place).from ≤ (log_at new place).from
  pub behind : (place number : ℕ) (key : List ℕ) → (log_at new place).from ≤ number
      → number < old.count → said_of (since number (log_at new place).changes) key
      ≡ later_of (said_of (since number (log_at old place).changes) key)
      (last_said flips place key)
