-- What a list of events leaves.
use Rattle.std.specs.Prelude.{◌≡◌, ℕ, List, length}
use Rattle.agg_types.specs.declared.config.Config.{Config}
use Rattle.agg_types.specs.declared.event.Event.{Event}
use Rattle.agg_types.specs.declared.row_key.RowKey.{RowKey}
use Rattle.fleet_model.specs.declared.arrival.Arrival.{Arrival}
use Rattle.fleet_model.specs.Filters.{filters_in}
use Rattle.fleet_model.specs.History.{judged}
use Rattle.fleet_model.specs.Moments.{now_of}
use Rattle.fleet_model.specs.Rows.{Judged, counted_of, rows_in}
use Rattle.fleet_model.specs.Seats.{above_all, seats_in, seats_of}
use Rattle.fleet_model.specs.Sessions.{sessions_in}

-- the fleet at a moment
pub record State : Type 0 where
  -- the configuration, with the filters that stand
  pub config : Config
  -- how many of them were configured: those stand first
  pub configured : ℕ
  pub moment : ℕ
  -- the rows in force, by place
  pub rows : List (RowKey × Arrival)
  -- the seat that is the session in force, by peer
  pub sessions : List (ℕ × ℕ)
  -- the number of its next event, by seat that sits
  pub seats : List (ℕ × ℕ)
  -- the least number for a seat to come
  pub next_seat : ℕ

abbrev pub with_filters : Config → List Event → Config
with_filters config counted = record config { filters = filters_in config counted }

abbrev pub state_after : Config → ℕ → List Judged → List Event → State
state_after config opening history counted =
    record {
      config = with_filters config counted;
      configured = length config.filters;
      moment = now_of opening counted;
      rows = rows_in opening history;
      sessions = sessions_in config counted;
      seats = seats_in counted;
      next_seat = above_all (seats_of counted);
    }

-- what recomputing from the whole list gives
unfoldable pub state_of : Config → ℕ → List Event → State
state_of config opening events =
    state_after config opening (judged config opening events)
    (counted_of (judged config opening events))

-- a state is what these events leave
unfoldable pub IsStateOf : State → Config → ℕ → List Event → Type 0
IsStateOf state config opening events = state ≡ state_of config opening events
