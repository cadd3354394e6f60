-- A whole list of events, each judged by those before it.
use Rattle.std.specs.Prelude.{ℕ, List, [], ◌∷◌, ◌++◌, fold}
use Rattle.agg_types.specs.declared.config.Config.{Config}
use Rattle.agg_types.specs.declared.event.Event.{Event}
use Rattle.fleet_model.specs.Moments.{now_of}
use Rattle.fleet_model.specs.Rows.{Judged, judge_at, counted_of, rows_in}

-- an event, judged by the history before it
unfoldable pub judge : Config → ℕ → List Judged → Event → Judged
judge config opening history e =
    judge_at config (counted_of history) (rows_in opening history)
    (now_of opening (counted_of history)) e

-- each event of a list, judged by those before it
unfoldable pub judged : Config → ℕ → List Event → List Judged
judged config opening events =
    fold (λ history e. history ++ judge config opening history e ∷ []) [] events
