-- A copy that has the first part of a batch, since an allocation failed in the middle of it.
use Rattle.std.specs.Prelude.{List, [], ◌∷◌, Option, None, Some, fold}
use Rattle.std.specs.Arc.{arc_value}
use Rattle.agg_types.specs.declared.event.Event.{Event}
use Rattle.fleet_model.specs.Machine.{after}
use Rattle.fleet_model.specs.State.{State}
use Rattle.hub.specs.Batches.{events_in, left_of}
use Rattle.hub.specs.Trailed.{Trailed, further}
use Rattle.hub.specs.declared.copies.Rest.{Rest}
use Rattle.hub.specs.declared.copies.Posted.{Posted}
use Rattle.hub.specs.declared.copies.Posted.TheVariants as posted

-- where the rest of a batch brings a book
abbrev pub brought_on : State → Option Rest → State
brought_on book None = book
brought_on book (Some rest) = fold after book (left_of (arc_value rest.batch) rest.done)

-- what was taken once the rest of a batch is
abbrev pub took_on : Trailed → Option Rest → Trailed
took_on trail None = trail
took_on trail (Some rest) = further trail (left_of (arc_value rest.batch) rest.done)

-- a single event, or those of a batch; its end is none
abbrev pub events_of : Posted → List Event
events_of (posted.Event event) = event ∷ []
events_of (posted.Batch run) = events_in run
events_of posted.End = []
