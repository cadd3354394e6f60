-- What is left of a connection that is over.
use Rattle.std.specs.Prelude.{◌≡◌, ℕ, Option, Result, MatchResult}
use Rattle.agg_types.specs.declared.config.Config.{Config}
use Rattle.hub.specs.History.{Beginning}
use Rattle.worker_frame.specs.declared.door.Door.{Door}
use Rattle.worker_frame.specs.declared.served.Faulted.{Faulted}
use Rattle.worker_frame.specs.declared.served.Served.{Served}
use Rattle.admin_worker.specs.Commands.{IsCommandedUntil, IsCommandedWhole}
use Rattle.worker_frame.specs.Traffic.{Traffic}
use Rattle.peer_worker.specs.Working.{IsServedUntil, IsServedWhole}

-- a hub of this configuration served a session, at a seat or at none
pub record WasServed (config : Config) (start now : Traffic)
    (ended : Result Served Faulted) : Type 0 where
  pub hub : Beginning
  pub of : hub.config ≡ config
  pub seat : Option ℕ
  pub how : MatchResult ended (IsServedWhole hub seat start now)
      (IsServedUntil hub seat start now)

-- a hub of this configuration served an admin whose answers are for these readers
pub record WasCommanded (door : Door) (config : Config) (start now : Traffic)
    (ended : Result Served Faulted) : Type 0 where
  pub hub : Beginning
  pub of : hub.config ≡ config
  pub seat : ℕ
  pub how : MatchResult ended (IsCommandedWhole door hub seat start now)
      (IsCommandedUntil door hub seat start now)
