-- What came into filters' sets and what left them, as copies keep it and readers are told.
use Rattle.std.specs.Prelude.{◌≡◌, ℕ, Bool, List, ◌++◌, Option, IfSome, length}
use Rattle.agg_types.specs.declared.config.Config.{Config}
use Rattle.agg_types.specs.declared.event.Event.{Event}
use Rattle.book.specs.Flips.{held_in}
use Rattle.fleet_model.specs.State.{state_of}
use Rattle.set_changes.specs.Numbered.{AreChangesOf, Numbered, Says, Sets, said_of}
use Rattle.set_changes.specs.declared.change.Change.{Change}
use Rattle.hub.specs.Trailed.{Trailed}

-- whether the filter at a place holds a key behind a list of events of a fleet
abbrev pub held_behind : Config → ℕ → List Event → ℕ → List ℕ → Bool
held_behind config opening events place key = held_in (state_of config opening events) place key

-- which filters stand behind lists of events of a fleet, and what they hold
abbrev pub sets_of : Config → ℕ → Sets
sets_of config opening = record {
  filters = λ events. (state_of config opening events).config.filters;
  held = held_behind config opening;
}

-- where changes are kept, they are those of a trail
abbrev pub AreKeptOf : Option Numbered → Trailed → Type 0
AreKeptOf kept trail =
    IfSome kept (λ n. AreChangesOf n (sets_of trail.config trail.opening) trail.events)

-- changes say what came into the set of the filter at a place and what left it, on the way from the
-- first so many events of a trail to all of them
abbrev pub SayBehind : Trailed → ℕ → ℕ → List Change → Type 0
SayBehind trail place number changes = (early late : List Event)
    → trail.events ≡ early ++ late → length early ≡ number
    → Says (sets_of trail.config trail.opening) place (said_of changes) early late
