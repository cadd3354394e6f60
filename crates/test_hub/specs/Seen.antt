-- What a look shows.
use Rattle.std.specs.Prelude.{◌≡◌, ℕ, List, Option}
use Rattle.agg_types.specs.declared.event.What.{What}
use Rattle.fleet_model.specs.Machine.{session_of}
use Rattle.fleet_model.specs.State.{state_of}
use Rattle.hub.specs.History.{Beginning}
use Rattle.hub.specs.Posts.{Follows, Seated}
use Rattle.hub.specs.Shows.{HasBatch}

-- the session in force of a peer, recomputed from a list that begins with what a lens had seen, and
-- that has a batch
pub record IsSessionShown (seen : Beginning) (p : Seated) (whats : List What) (peer : ℕ)
    (session : Option ℕ) : Type 0 where
  pub list : Beginning
  pub begins : Follows seen list
  pub holds : HasBatch p whats list
  pub is : session ≡ session_of (state_of list.config list.opening list.events) peer
