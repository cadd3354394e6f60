-- Which connections are open after a list of steps, newest first, and what is kept of each.
use Rattle.std.specs.Prelude.{ℕ, ◌<◌, IfSome, Bool, ◌&&◌, not, nat_le, nat_lt, is_none, List}
use Rattle.std.specs.Prelude.{Option}
use Rattle.std.specs.Bool.{then_some}
use Rattle.std.specs.BTreeMap.{is_at}
use Rattle.std.specs.Map.{lookup}
use Rattle.std.specs.Option.{option_map}
use Rattle.std.specs.Ordering.{nat_cmp}
use Rattle.agg_types.specs.declared.config.Config.{Config}
use Rattle.agg_types.specs.declared.event.Event.{Event}
use Rattle.agg_types.specs.declared.limits.TheConstants.{NUMBERS_END}
use Rattle.session_core.specs.Piece.{setup_of}
use Rattle.session_core.specs.Talk.{stage_of}
use Rattle.session_core.specs.declared.stage.Stage.{Stage}
use Rattle.fleet_core.specs.declared.connection.Connection.{Connection}
use Rattle.fleet_core.specs.declared.step.Step.{Step}
use Rattle.fleet_core.specs.Events.{count_of, is_seated, talk_of}
use Rattle.fleet_core.specs.Steps.{connects, is_lost, stream}

-- a connection is open: it came, wasn't lost, and its stream hasn't ended
unfoldable pub is_open : Config → List Event → List Step → ℕ → Bool
is_open config events past conn =
    (nat_lt 0 conn && (nat_le conn (connects past) && not (is_lost past conn)))
    && is_none (talk_of config events past conn).end

-- what is kept of an open connection: whether it has a seat, where its stream stands, and the
-- number of its seat's next event
pub record Link : Type 0 where
  pub seated : Bool
  pub stage : Stage
  pub next_seq : Option ℕ

-- the number of the next event at a connection's seat, if it has one
abbrev pub next_seq_of : ℕ → List Event → Option ℕ
next_seq_of conn events = then_some (is_seated conn events) (count_of conn events)

unfoldable pub open_link : Config → List Event → List Step → ℕ → Link
open_link config events past conn =
    record {
      seated = is_seated conn events;
      stage = stage_of (setup_of config) (is_seated conn events) (stream past conn);
      next_seq = next_seq_of conn events;
    }

-- what is kept of a connection, if it is open
unfoldable pub link_of : Config → List Event → List Step → ℕ → Option Link
link_of config events past conn =
    then_some (is_open config events past conn) (open_link config events past conn)

abbrev pub as_link : Connection → Link
as_link connection =
    record {
      seated = connection.session.seated;
      stage = connection.session.stage;
      next_seq = connection.next_seq;
    }

abbrev pub found : List (ℕ × Connection) → ℕ → Option Connection
found links conn = lookup (is_at (nat_cmp conn)) links

abbrev pub linked : List (ℕ × Connection) → ℕ → Option Link
linked links conn = option_map as_link (found links conn)

-- the number of the next event at the seat of a connection that is found, if it has a seat
abbrev pub next_seq_at : List (ℕ × Connection) → ℕ → Option (Option ℕ)
next_seq_at links conn = option_map (λ connection. connection.next_seq) (found links conn)

-- its seat has numbers left, if it has one
abbrev pub HasNumbers : Connection → Type 0
HasNumbers connection = IfSome connection.next_seq (λ seq. seq < NUMBERS_END)
