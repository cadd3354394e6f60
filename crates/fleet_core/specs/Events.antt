-- The events that a list of steps makes, oldest first, while lists of steps begin with the newest.
use Rattle.std.specs.Prelude.{ℕ, ◌+◌, Bool, ◌==◌, nat_lt, if◌then◌else◌, List, [], ◌∷◌, ◌++◌}
use Rattle.std.specs.Prelude.{length, drop, count_by, Option, None, Some}
use Rattle.agg_types.specs.declared.config.Config.{Config}
use Rattle.agg_types.specs.declared.event.Event.{Event}
use Rattle.agg_types.specs.declared.event.What.{What}
use Rattle.agg_types.specs.declared.event.What.TheVariants as whats
use Rattle.agg_types.specs.declared.limits.TheConstants.{MOST_SEATS}
use Rattle.fleet_model.specs.Seats.{numbered}
use Rattle.fleet_model.specs.State.{state_of}
use Rattle.session_core.specs.Piece.{setup_of}
use Rattle.session_core.specs.Talk.{Talk, talk}
use Rattle.session_core.specs.declared.cause.End.{End}
use Rattle.fleet_core.specs.declared.step.Step.{Step}
use Rattle.fleet_core.specs.declared.step.Step.TheVariants.{Connect, Bytes, Lost, Clear, AddFilter}
use Rattle.fleet_core.specs.declared.step.Step.TheVariants.{DropFilter, Moment, Told}
use Rattle.fleet_core.specs.Steps.{connects, stream}

-- how many events a seat has
abbrev pub count_of : ℕ → List Event → ℕ
count_of seat events = count_by (λ e. e.seat == seat) events

-- whether a connection has a seat: it has one from its Sit on
abbrev pub is_seated : ℕ → List Event → Bool
is_seated conn events = nat_lt 0 (count_of conn events)

-- each event has its seat's next number
abbrev pub at_front : List Event → What → List Event
at_front events what = numbered 0 (count_of 0 events) (what ∷ [])

-- a connection without a seat adds nothing
abbrev pub at_seat : List Event → ℕ → List What → List Event
at_seat events conn whats =
    if is_seated conn events then numbered conn (count_of conn events) whats else []

abbrev pub leave_at : Option End → List What
leave_at None = []
leave_at (Some end) = whats.Leave ∷ []

-- what a stream tells beyond what it told before, and a leave if its end came
abbrev pub news : Talk → Talk → List What
news before after = drop (length before.facts) after.facts ++ leave_at after.end

-- the talk of a connection's bytes
unfoldable pub talk_of : Config → List Event → List Step → ℕ → Talk
talk_of config events past conn = talk (setup_of config) (is_seated conn events) (stream past conn)

unfoldable pub talk_with : Config → List Event → List Step → ℕ → List ℕ → Talk
talk_with config events past conn piece =
    talk (setup_of config) (is_seated conn events) (stream past conn ++ piece)

-- whether fewer seats sit than may
abbrev pub has_free_seat : Config → ℕ → List Event → Bool
has_free_seat config opening events =
    nat_lt (length (state_of config opening events).seats) MOST_SEATS

-- the events that a step adds to these, of the steps before it
unfoldable pub added : Config → ℕ → List Step → List Event → Step → List Event
added config opening past events Connect =
    if has_free_seat config opening events
    then numbered (connects past + 1) 0 (whats.Sit ∷ [])
    else []
added config opening past events (Bytes conn piece) =
    at_seat events conn
    (news (talk_of config events past conn) (talk_with config events past conn piece))
added config opening past events (Lost conn) = at_seat events conn (whats.Leave ∷ [])
added config opening past events (Clear table sel) = at_front events (whats.Clear table sel)
added config opening past events (AddFilter filter) = at_front events (whats.AddFilter filter)
added config opening past events (DropFilter name) = at_front events (whats.DropFilter name)
added config opening past events (Moment moment) = at_front events (whats.Moment moment)
added config opening past events (Told conn) = []

-- the events of a list of steps: first the Sit of seat 0, at which rows are cleared, filters added
-- and dropped, and moments told
unfoldable pub events_of : Config → ℕ → List Step → List Event
events_of config opening [] = numbered 0 0 (whats.Sit ∷ [])
events_of config opening (step ∷ past) =
    events_of config opening past
    ++ added config opening past (events_of config opening past) step

-- the events that a step adds to those of the steps before it
abbrev pub added_by : Config → ℕ → List Step → Step → List Event
added_by config opening past step = added config opening past (events_of config opening past) step
