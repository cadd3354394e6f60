-- Updates that aren't taken for want of room.
use Rattle.std.specs.Prelude.{ℕ, Bool, false, ◌&&◌, not}
use Rattle.agg_types.specs.declared.event.Event.{Event}
use Rattle.agg_types.specs.declared.event.What.{What}
use Rattle.agg_types.specs.declared.event.What.TheVariants.{Sit, Open, Put, Clear, AddFilter}
use Rattle.agg_types.specs.declared.event.What.TheVariants.{DropFilter, Moment, Leave}
use Rattle.fleet_model.specs.Machine.{counts_now, session_of}
use Rattle.fleet_model.specs.Rows.{has_room}
use Rattle.fleet_model.specs.Seats.{is_number}
use Rattle.fleet_model.specs.State.{State}

-- whether a seat's event is a Put of its peer's session in force that has no room: the peer holds
-- no row of the key, and as many of the table as its size, or all peers together as many as their
-- bound
unfoldable pub lacks_room : State → ℕ → What → Bool
lacks_room state seat Sit = false
lacks_room state seat (Open peer) = false
lacks_room state seat (Put peer table key life cells) =
    is_number (session_of state peer) seat
    && not (has_room state.config state.rows
    (record { table = table; key = key; peer = peer }) life)
lacks_room state seat (Clear table sel) = false
lacks_room state seat (AddFilter filter) = false
lacks_room state seat (DropFilter name) = false
lacks_room state seat (Moment moment) = false
lacks_room state seat Leave = false

-- whether an event counts, and is an update that isn't taken for want of room
unfoldable pub is_dropped : State → Event → Bool
is_dropped state e = counts_now state e && lacks_room state e.seat e.what
