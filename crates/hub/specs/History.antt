-- The history of a fleet, and its beginnings.
use Rattle.std.specs.Prelude.{◌≡◌, ℕ, ◌<◌, ◌==◌, Bool, true, ◌&&◌, List, [], ◌∷◌, ◌++◌, length}
use Rattle.std.specs.Prelude.{filter}
use mathlib.Core.List.{IsPrefix}
use Rattle.logbook.specs.Pages.{Book}
use Rattle.agg_types.specs.declared.config.Config.{Config}
use Rattle.agg_types.specs.declared.event.Event.{Event}
use Rattle.fleet_model.specs.Machine.{after, counts_now, opened}
use Rattle.fleet_model.specs.State.{State}

-- a beginning of the history of one log, of a fleet of this configuration and opening moment
pub record Beginning : Type 0 where
  pub of : Book
  pub config : Config
  pub opening : ℕ
  pub events : List Event

-- each event counts in what those before it leave
abbrev pub all_count : State → List Event → Bool
all_count state [] = true
all_count state (e ∷ later) = counts_now state e && all_count (after state e) later

-- all events of a history count
abbrev pub AllCount : Config → ℕ → List Event → Type 0
AllCount config opening events = all_count (opened config opening) events ≡ true

-- a list begins with another, and goes on
abbrev pub IsLonger : List Event → List Event → Type 0
IsLonger events longer = IsPrefix events longer × (length events < length longer)

-- the events of a seat, in order
abbrev pub own : ℕ → List Event → List Event
own seat events = filter (λ e. e.seat == seat) events

-- a beginning with these events more
abbrev pub longer_by : Beginning → List Event → Beginning
longer_by b events = record b { events = b.events ++ events }
