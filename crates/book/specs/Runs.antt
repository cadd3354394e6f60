-- Runs: what happens at a seat as one.
use Rattle.std.specs.Prelude.{◌≡◌, ℕ, ◌+◌, List, ◌++◌, drop, fold}
use Rattle.agg_types.specs.declared.event.Event.{Event}
use Rattle.agg_types.specs.declared.event.What.{What}
use Rattle.fleet_model.specs.Machine.{after}
use Rattle.fleet_model.specs.Seats.{numbered}
use Rattle.fleet_model.specs.State.{State}

-- what is left of a run from a place on: the events of a seat, under its numbers from a first one
abbrev pub left_at : ℕ → ℕ → List What → ℕ → List Event
left_at seat first whats place = numbered seat (first + place) (drop place whats)

-- of what is left of a run at one place, the events up to another one have been applied
pub record IsPartApplied (seat first : ℕ) (whats : List What) (from to : ℕ) (old new : State)
    : Type 0 where
  pub part : List Event
  pub whole : left_at seat first whats from ≡ part ++ left_at seat first whats to
  pub applied : new ≡ fold after old part
