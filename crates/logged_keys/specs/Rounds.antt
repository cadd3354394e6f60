-- Rounds, one after the other.
use Rattle.std.specs.Prelude.{◌≡◌, ◌≤◌, ◌&&◌, ℕ, List, [], ◌∷◌, ◌++◌, filter, length, nat_le}
use Rattle.std.specs.Prelude.{nat_lt}
use Rattle.agg_types.specs.declared.event.Event.{Event}
use Rattle.set_changes.specs.Numbered.{Says, Sets, said_of}
use Rattle.set_changes.specs.declared.change.Change.{Change}

-- what a round tells of a filter: its changes behind a list of so many events, up to another
pub record Span : Type 0 where
  pub since : ℕ
  pub to : ℕ

-- each round goes on where the one before it ended
abbrev pub GoOn : ℕ → List Span → ℕ → Type 0
GoOn first [] last = first ≡ last
GoOn first (span ∷ spans) last =
    (span.since ≡ first) × (span.since ≤ span.to) × GoOn span.to spans last

-- how many of some rounds tell what changed under a number
abbrev pub tellings : List Span → ℕ → ℕ
tellings spans number =
    length (filter (λ span. nat_lt span.since number && nat_le number span.to) spans)

-- a part of a history, and the changes that a round had of it
pub record Part : Type 0 where
  pub events : List Event
  pub changes : List Change

-- the changes of each part say what came into a filter's set there and what left it
abbrev pub EachSays : Sets → ℕ → List Event → List Part → Type 0
EachSays sets place early [] = Unit {0}
EachSays sets place early (part ∷ parts) =
    Says sets place (said_of part.changes) early part.events
    × EachSays sets place (early ++ part.events) parts
