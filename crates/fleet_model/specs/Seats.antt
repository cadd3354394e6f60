-- Which seats sit, and which events count. Lists of events begin with the oldest.
use Rattle.std.specs.Prelude.{ℕ, ◌+◌, Bool, true, false, ◌&&◌, not, if◌then◌else◌, ◌==◌}
use Rattle.std.specs.Prelude.{nat_le, nat_lt, List, [], ◌∷◌, length, Option, None, Some, map}
use Rattle.std.specs.Prelude.{filter, fold, count_by, max}
use Rattle.std.specs.Bool.{then_some}
use Rattle.std.specs.BTreeMap.{insert_entry}
use Rattle.std.specs.List.{list_any}
use Rattle.std.specs.Ordering.{nat_cmp}
use Rattle.agg_types.specs.Fits.{fits}
use Rattle.agg_types.specs.declared.config.Config.{Config}
use Rattle.agg_types.specs.declared.event.Event.{Event}
use Rattle.agg_types.specs.declared.event.What.{What}
use Rattle.agg_types.specs.declared.event.What.TheVariants.{Sit, Open, Put, Clear, AddFilter}
use Rattle.agg_types.specs.declared.event.What.TheVariants.{DropFilter, Moment, Leave}
use Rattle.agg_types.specs.declared.limits.TheConstants.{LAST_SEAT, MOST_SEATS, NUMBERS_END}

abbrev pub is_sit : What → Bool
is_sit Sit = true
is_sit (Open peer) = false
is_sit (Put peer table key life cells) = false
is_sit (Clear table sel) = false
is_sit (AddFilter filter) = false
is_sit (DropFilter name) = false
is_sit (Moment moment) = false
is_sit Leave = false

abbrev pub is_leave : What → Bool
is_leave Sit = false
is_leave (Open peer) = false
is_leave (Put peer table key life cells) = false
is_leave (Clear table sel) = false
is_leave (AddFilter filter) = false
is_leave (DropFilter name) = false
is_leave (Moment moment) = false
is_leave Leave = true

-- a seat sits if it sat down and hasn't left
unfoldable pub sits : List Event → ℕ → Bool
sits counted seat =
    list_any (λ e. (e.seat == seat) && is_sit e.what) counted
    && not (list_any (λ e. (e.seat == seat) && is_leave e.what) counted)

-- the number of a seat's next event, if it sits: how many of its events counted
unfoldable pub number : List Event → ℕ → Option ℕ
number counted seat = then_some (sits counted seat) (count_by (λ e. e.seat == seat) counted)

-- what happens at a seat, an event each, under its numbers from this one on
abbrev pub numbered : ℕ → ℕ → List What → List Event
numbered seat seq [] = []
numbered seat seq (what ∷ whats) =
    record { seat = seat; seq = seq; what = what } ∷ numbered seat (seq + 1) whats

-- the seats that ever sat down
unfoldable pub seats_of : List Event → List ℕ
seats_of counted = map (λ e. e.seat) (filter (λ e. is_sit e.what) counted)

-- the least number above all of these
abbrev pub above_all : List ℕ → ℕ
above_all [] = 0
above_all (n ∷ ns) = max (n + 1) (above_all ns)

abbrev pub put_some : {X : Type 0} → List (ℕ × X) → ℕ → Option X → List (ℕ × X)
put_some entries n None = entries
put_some entries n (Some x) = insert_entry nat_cmp entries n x

-- what is known of these numbers: each of which g says something, once, in order, with what it says
unfoldable pub known : {X : Type 0} → (ℕ → Option X) → List ℕ → List (ℕ × X)
known g ns = fold (λ entries n. put_some entries n (g n)) [] ns

-- the seats that sit, each with the number of its next event
unfoldable pub seats_in : List Event → List (ℕ × ℕ)
seats_in counted = known (number counted) (seats_of counted)

abbrev pub is_number : Option ℕ → ℕ → Bool
is_number None n = false
is_number (Some m) n = m == n

-- whether an event comes next: a seat sits down under a number above all earlier ones, while a
-- place is free; any other event has the number of its seat's next event
abbrev pub is_next : What → ℕ → ℕ → (free : Bool) → (above : ℕ) → (due : Option ℕ) → Bool
is_next what seat seq free above due =
    if is_sit what
    then (seq == 0) && nat_le seat LAST_SEAT && nat_le above seat && free
    else is_number due seq && nat_lt seq NUMBERS_END

-- whether an event counts after those that counted: it fits, and it comes next
unfoldable pub counts : Config → List Event → Event → Bool
counts config counted e =
    let free : Bool = nat_lt (length (seats_in counted)) MOST_SEATS in
    fits config e.what
    && is_next e.what e.seat e.seq free (above_all (seats_of counted)) (number counted e.seat)
