-- The machine of one event, which bodies are compared with.
use Rattle.std.specs.Prelude.{ℕ, ◌+◌, Bool, ◌&&◌, not, if◌then◌else◌, ◌==◌, nat_lt, List, []}
use Rattle.std.specs.Prelude.{length, Option, filter, max}
use Rattle.std.specs.BTreeMap.{insert_entry, is_at}
use Rattle.std.specs.Map.{lookup, remove_entry}
use Rattle.std.specs.Ordering.{nat_cmp}
use Rattle.agg_types.specs.Fits.{fits}
use Rattle.agg_types.specs.RowKey.{row_key_cmp}
use Rattle.agg_types.specs.declared.config.Config.{Config}
use Rattle.agg_types.specs.declared.event.Event.{Event}
use Rattle.agg_types.specs.declared.event.What.{What}
use Rattle.agg_types.specs.declared.event.What.TheVariants.{Sit, Open, Put, Clear, AddFilter}
use Rattle.agg_types.specs.declared.event.What.TheVariants.{DropFilter, Moment, Leave}
use Rattle.agg_types.specs.declared.limits.TheConstants.{MOST_SEATS}
use Rattle.agg_types.specs.declared.row_key.RowKey.{RowKey}
use Rattle.fleet_model.specs.declared.arrival.Arrival.{Arrival}
use Rattle.fleet_model.specs.Filters.{filters_after}
use Rattle.fleet_model.specs.Moments.{is_live}
use Rattle.fleet_model.specs.Rows.{has_room, clears_at, arrival_of}
use Rattle.fleet_model.specs.Seats.{is_next, is_number}
use Rattle.fleet_model.specs.State.{State}

-- an event by its parts
abbrev pub event_of : ℕ → ℕ → What → Event
event_of seat seq what = record { seat = seat; seq = seq; what = what }

-- the session in force of a peer, or none
abbrev pub session_of : State → ℕ → Option ℕ
session_of state peer = lookup (is_at (nat_cmp peer)) state.sessions

-- the number of a seat's next event, or none where it doesn't sit
abbrev pub number_of : State → ℕ → Option ℕ
number_of state seat = lookup (is_at (nat_cmp seat)) state.seats

-- whether an event counts now
unfoldable pub counts_now : State → Event → Bool
counts_now state e =
    fits state.config e.what
    && is_next e.what e.seat e.seq (nat_lt (length state.seats) MOST_SEATS) state.next_seat
    (number_of state e.seat)

-- the rows with another one at a place: in place of an older one, and gone at once if its life is
-- over
unfoldable pub with_row : ℕ → List (RowKey × Arrival) → RowKey → Arrival → List (RowKey × Arrival)
with_row t rows place row = if is_live t row
    then insert_entry row_key_cmp rows place row else remove_entry (is_at (row_key_cmp place)) rows

-- the rows after a Put: it must be of the session in force, and have room
unfoldable pub with_put : State → ℕ → RowKey → Arrival → List (RowKey × Arrival)
with_put state seat place row =
    if is_number (session_of state place.peer) seat
    && has_room state.config state.rows place row.life
    then with_row state.moment state.rows place row else state.rows

-- the seats with one more event of one of them
abbrev pub with_event : State → Event → List (ℕ × ℕ)
with_event state e = insert_entry nat_cmp state.seats e.seat (e.seq + 1)

-- what an event that counts does
unfoldable pub happened : State → Event → What → State
happened state e Sit = record state { seats = with_event state e; next_seat = e.seat + 1 }
happened state e (Open peer) =
    record state {
      seats = with_event state e;
      sessions =
          insert_entry nat_cmp state.sessions peer e.seat;
    }
happened state e (Put peer table key life cells) =
    record state {
      seats = with_event state e;
      rows = with_put state e.seat (record { table = table; key = key; peer = peer })
          (arrival_of state.config.tables table state.moment life cells);
    }
happened state e (Clear table sel) =
    record state {
      seats = with_event state e;
      rows =
          filter (λ row. not (clears_at state.config state.rows state.moment (Clear table sel)
          row.0)) state.rows;
    }
happened state e (AddFilter filter) =
    record state {
      seats = with_event state e;
      config =
          record state.config {
            filters = filters_after state.configured state.config.filters (AddFilter filter);
          };
    }
happened state e (DropFilter name) =
    record state {
      seats = with_event state e;
      config =
          record state.config {
            filters = filters_after state.configured state.config.filters (DropFilter name);
          };
    }
happened state e (Moment moment) =
    record state {
      seats = with_event state e;
      moment = max state.moment moment;
      rows = filter (λ row. is_live (max state.moment moment) row.1) state.rows;
    }
happened state e Leave =
    record state {
      seats = remove_entry (is_at (nat_cmp e.seat)) state.seats;
      sessions = filter (λ session. not (session.1 == e.seat)) state.sessions;
    }

-- the state after one more event; one that doesn't count changes nothing
unfoldable pub after : State → Event → State
after state e = if counts_now state e then happened state e e.what else state

-- a fleet in which nothing has happened yet
unfoldable pub opened : Config → ℕ → State
opened config moment =
    record {
      config = config;
      configured = length config.filters;
      moment = moment;
      rows = [];
      sessions = [];
      seats = [];
      next_seat = 0;
    }
