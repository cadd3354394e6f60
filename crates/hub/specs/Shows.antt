-- What a reader is shown of a batch that was posted.
use Rattle.std.specs.Prelude.{◌≡◌, List, ◌++◌}
use mathlib.Core.List.{IsPrefix}
use Rattle.agg_types.specs.declared.event.Event.{Event}
use Rattle.agg_types.specs.declared.event.What.{What}
use Rattle.fleet_model.specs.Seats.{numbered}
use Rattle.fleet_model.specs.State.{State}
use Rattle.hub.specs.History.{Beginning}
use Rattle.hub.specs.Posts.{Follows, Seated}
use Rattle.hub.specs.Views.{IsBookOf}

-- a list has a batch under its seat's numbers, in one piece and behind all that its pass had seen
pub record HasBatch (p : Seated) (whats : List What) (list : Beginning) : Type 0 where
  pub before : List Event
  pub later : List Event
  pub split : list.events ≡ before ++ numbered p.seat p.number whats ++ later
  pub seen : IsPrefix p.seen.events before

-- A book answers what recomputing from a list gives that begins with all that the lens had seen and
-- with all that it learned, and has the batch.
pub record ShowsPosted (seen learned : Beginning) (p : Seated) (whats : List What) (book : State)
    : Type 0 where
  pub list : Beginning
  pub begins : Follows seen list
  pub learns : Follows learned list
  pub holds : HasBatch p whats list
  pub recomputed : IsBookOf book list
