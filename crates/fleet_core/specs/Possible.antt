-- Which steps can be done after others, and what they send. Lists of steps begin with the newest.
use Rattle.std.specs.Prelude.{ℕ, ◌+◌, ◌-◌, Bool, true, false, ◌&&◌, not, nat_le}
use Rattle.std.specs.Prelude.{List, [], ◌∷◌, ◌++◌, length, drop, Option, None}
use Rattle.std.specs.Option.{option_map, option_map_or}
use Rattle.agg_types.specs.Fits.{fits}
use Rattle.agg_types.specs.declared.config.Config.{Config}
use Rattle.agg_types.specs.declared.limits.TheConstants.{LAST_SEAT, NUMBERS_END}
use Rattle.session_core.specs.Cause.{cause_of}
use Rattle.session_core.specs.Talk.{Talk, acks_among}
use Rattle.session_core.specs.declared.cause.SessionCause.{SessionCause}
use Rattle.fleet_core.specs.declared.step.Replies.{Replies}
use Rattle.fleet_core.specs.declared.step.Step.{Step}
use Rattle.fleet_core.specs.declared.step.Step.TheVariants.{Connect, Bytes, Lost, Clear, AddFilter}
use Rattle.fleet_core.specs.declared.step.Step.TheVariants.{DropFilter, Moment, Told}
use Rattle.fleet_core.specs.Events.{count_of, events_of, is_seated, talk_of, talk_with}
use Rattle.fleet_core.specs.Links.{is_open}
use Rattle.fleet_core.specs.Steps.{connects, what_at}
use Rattle.fleet_core.specs.Telling.{turn_out}

-- whether what a step makes happen at seat 0, if it does, fits the configuration
abbrev pub does_fit : Config → Step → Bool
does_fit config step = option_map_or (fits config) (what_at step) true

-- whether a connection is open after these steps
abbrev pub is_open_after : Config → ℕ → List Step → ℕ → Bool
is_open_after config opening past conn = is_open config (events_of config opening past) past conn

-- whether a step finds its connection open: bytes, a loss and a telling name one
unfoldable pub can_be : Config → ℕ → List Step → Step → Bool
can_be config opening past Connect = true
can_be config opening past (Bytes conn piece) = is_open_after config opening past conn
can_be config opening past (Lost conn) = is_open_after config opening past conn
can_be config opening past (Clear table sel) = true
can_be config opening past (AddFilter filter) = true
can_be config opening past (DropFilter name) = true
can_be config opening past (Moment moment) = true
can_be config opening past (Told conn) = is_open_after config opening past conn

-- whether a seat has no numbers left for so many events
abbrev pub is_full : ℕ → ℕ → Bool
is_full count more = nat_le NUMBERS_END (count + more)

-- the same of a seat after these steps
abbrev pub is_seat_full : Config → ℕ → List Step → ℕ → ℕ → Bool
is_seat_full config opening past seat more =
    is_full (count_of seat (events_of config opening past)) more

-- whether numbers are spent: those of connections, or of a seat for as many events as a piece has
-- bytes, or for one at seat 0
unfoldable pub is_spent : Config → ℕ → List Step → Step → Bool
is_spent config opening past Connect = nat_le LAST_SEAT (connects past)
is_spent config opening past (Bytes conn piece) =
    is_seated conn (events_of config opening past)
    && is_seat_full config opening past conn (length piece)
is_spent config opening past (Lost conn) = false
is_spent config opening past (Clear table sel) = is_seat_full config opening past 0 1
is_spent config opening past (AddFilter filter) = is_seat_full config opening past 0 1
is_spent config opening past (DropFilter name) = is_seat_full config opening past 0 1
is_spent config opening past (Moment moment) = is_seat_full config opening past 0 1
is_spent config opening past (Told conn) = false

-- whether a step finds its connection open and numbers spent
abbrev pub spends_at : Config → ℕ → List Step → Step → Bool
spends_at config opening past step =
    can_be config opening past step && is_spent config opening past step

-- whether a step can be done: it finds its connection open, there are numbers for it, and it fits
abbrev pub is_possible : Config → ℕ → List Step → Step → Bool
is_possible config opening past step =
    can_be config opening past step && not (is_spent config opening past step)
    && does_fit config step

-- whether each of these steps could be done after those before it
unfoldable pub are_possible : Config → ℕ → List Step → Bool
are_possible config opening [] = true
are_possible config opening (step ∷ past) =
    is_possible config opening past step && are_possible config opening past

-- the replies that a talk has beyond those before, and the acknowledgements of the messages between
abbrev pub sent_between : Config → Talk → Talk → List ℕ
sent_between config before after =
    drop (length before.replies) after.replies
    ++ acks_among config.tables (after.count - before.count) after.past

-- what is sent by a step: to which connection, 0 where it is no connection's, and the bytes
unfoldable pub sent_by : Config → ℕ → List Step → Step → Replies
sent_by config opening past Connect = record { conn = connects past + 1; out = [] }
sent_by config opening past (Bytes conn piece) =
    record {
      conn = conn;
      out =
          sent_between config (talk_of config (events_of config opening past) past conn)
          (talk_with config (events_of config opening past) past conn piece);
    }
sent_by config opening past (Lost conn) = record { conn = conn; out = [] }
sent_by config opening past (Clear table sel) = record { conn = 0; out = [] }
sent_by config opening past (AddFilter filter) = record { conn = 0; out = [] }
sent_by config opening past (DropFilter name) = record { conn = 0; out = [] }
sent_by config opening past (Moment moment) = record { conn = 0; out = [] }
sent_by config opening past (Told conn) =
    record { conn = conn; out = turn_out config opening past conn }

-- why the stream ends that a step brings bytes of, if it ends there
unfoldable pub end_by : Config → ℕ → List Step → Step → Option SessionCause
end_by config opening past Connect = None
end_by config opening past (Bytes conn piece) =
    option_map cause_of (talk_with config (events_of config opening past) past conn piece).end
end_by config opening past (Lost conn) = None
end_by config opening past (Clear table sel) = None
end_by config opening past (AddFilter filter) = None
end_by config opening past (DropFilter name) = None
end_by config opening past (Moment moment) = None
end_by config opening past (Told conn) = None
