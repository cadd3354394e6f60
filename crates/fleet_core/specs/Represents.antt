-- What a fleet stands for.
use Rattle.std.specs.Prelude.{◌≡◌, ℕ, ◌<◌, false, true, IfSome, List, ◌++◌}
use Rattle.std.specs.List.{list_any}
use Rattle.agg_types.specs.declared.config.Config.{Config}
use Rattle.agg_types.specs.declared.event.Event.{Event}
use Rattle.fleet_model.specs.State.{State, state_of}
use Rattle.fleet_core.specs.declared.connection.Connection.{Connection}
use Rattle.fleet_core.specs.declared.step.Step.{Step}
use Rattle.fleet_core.specs.Events.{count_of, events_of}
use Rattle.fleet_core.specs.Links.{found, link_of, linked}
use Rattle.fleet_core.specs.Possible.{are_possible}
use Rattle.fleet_core.specs.Steps.{connects, names}
use Rattle.fleet_core.specs.Telling.{told_of}

-- the book, the events that it has yet to take, the open connections by number, how many
-- connections came, and the number of seat 0's next event
pub record Collected : Type 0 where
  pub book : State
  pub waiting : List Event
  pub links : List (ℕ × Connection)
  pub connected : ℕ
  pub next_seq : ℕ

-- a connection that is found was told what its steps say
abbrev pub WasTold : List (ℕ × Connection) → Config → ℕ → List Step → ℕ → Type 0
WasTold links config opening past conn =
    IfSome (found links conn) (λ connection. connection.teller ≡ told_of config opening past conn)

-- The fleet represents these steps, newest first, each of which could be done. Its book is what
-- recomputing gives from all their events but the last, which wait. Of each connection it keeps
-- what their steps say.
pub record Represents (fleet : Collected) (config : Config) (opening : ℕ)
    (past : List Step) : Type 0 where
  pub handed : List Event
  pub split : events_of config opening past ≡ handed ++ fleet.waiting
  pub book : fleet.book ≡ state_of config opening handed
  pub links : (conn : ℕ)
      → linked fleet.links conn ≡ link_of config (events_of config opening past) past conn
  pub connected : fleet.connected ≡ connects past
  pub next_seq : fleet.next_seq ≡ count_of 0 (events_of config opening past)
  -- each open connection was told what its steps say
  pub told : (conn : ℕ) → WasTold fleet.links config opening past conn
  -- no step names a connection that is still to come
  pub strangers : (conn : ℕ) → connects past < conn → list_any (names conn) past ≡ false
  pub possible : are_possible config opening past ≡ true

-- a fact for all the steps that the fleet stands for
abbrev pub ForEachPast : Collected → (Config → ℕ → List Step → Type 0) → Type 0
ForEachPast fleet Fact =
    (config : Config) (opening : ℕ) (past : List Step)
    → Represents fleet config opening past → Fact config opening past
