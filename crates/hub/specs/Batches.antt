-- What a seat posts as one.
use Rattle.std.specs.Prelude.{◌≡◌, ℕ, ◌-◌, ◌≤◌, List, ◌++◌, fold, take}
use Rattle.agg_types.specs.declared.event.Event.{Event}
use Rattle.agg_types.specs.declared.event.What.{What}
use Rattle.fleet_model.specs.Machine.{after}
use Rattle.fleet_model.specs.Seats.{numbered}
use Rattle.fleet_model.specs.State.{State}
use Rattle.book.specs.Runs.{left_at}

-- a seat, the number of the first event, and what happened
pub record Batched : Type 0 where
  pub seat : ℕ
  pub first : ℕ
  pub whats : List What

-- its events from a place on
abbrev pub left_of : Batched → ℕ → List Event
left_of batch place = left_at batch.seat batch.first batch.whats place

-- all its events
abbrev pub events_in : Batched → List Event
events_in batch = numbered batch.seat batch.first batch.whats

-- its events from one place to another
abbrev pub part_of : Batched → ℕ → ℕ → List Event
part_of batch from to = take (to - from) (left_of batch from)

-- of what is left of a batch at one place, the events up to another one have been applied
pub record IsApplied (batch : Batched) (from to : ℕ) (old new : State) : Type 0 where
  pub onwards : from ≤ to
  pub split : left_of batch from ≡ part_of batch from to ++ left_of batch to
  pub applied : new ≡ fold after old (part_of batch from to)
