-- What a copy of the book took.
use Rattle.std.specs.Prelude.{ℕ, List, [], ◌∷◌, ◌++◌}
use Rattle.agg_types.specs.declared.config.Config.{Config}
use Rattle.agg_types.specs.declared.event.Event.{Event}
use Rattle.fleet_model.specs.State.{IsStateOf, State}
use Rattle.hub.specs.History.{Beginning}
use Rattle.hub.specs.Law.{no_config}

-- how its book was opened, and the events since, in order
pub record Trailed : Type 0 where
  pub config : Config
  pub opening : ℕ
  pub events : List Event

-- a trail with these events more
abbrev pub further : Trailed → List Event → Trailed
further trail events = record trail { events = trail.events ++ events }

-- the trail of who took exactly the events of a beginning
abbrev pub trail_to : Beginning → Trailed
trail_to b = record { config = b.config; opening = b.opening; events = b.events }

-- a book is what recomputing from a trail gives
abbrev pub StandsAt : State → Trailed → Type 0
StandsAt book trail = IsStateOf book trail.config trail.opening trail.events

-- what is noted last
abbrev pub last_note : List Trailed → Trailed
last_note [] = record { config = no_config; opening = 0; events = [] }
last_note (trail ∷ others) = trail
