-- Which rows are in force: each event is judged once by the list before it, then the rows are
-- chosen from the whole list.
use Rattle.std.specs.Prelude.{ℕ, Bool, true, false, ◌&&◌, ◌||◌, not, ◌==◌, nat_lt, List, [], ◌∷◌}
use Rattle.std.specs.Prelude.{Option, None, Some, length, map, filter, fold, count_by, slice_get}
use Rattle.std.specs.Bool.{then_some}
use Rattle.std.specs.BTreeMap.{insert_entry}
use Rattle.std.specs.List.{list_all, list_any, cons_option}
use Rattle.std.specs.Option.{option_map_or}
use Rattle.agg_types.specs.RowKey.{row_key_cmp}
use Rattle.agg_types.specs.declared.config.Config.{Config}
use Rattle.agg_types.specs.declared.config.Shape.{Shape}
use Rattle.agg_types.specs.declared.event.Cell.{Cell}
use Rattle.agg_types.specs.declared.event.Event.{Event}
use Rattle.agg_types.specs.declared.event.What.{What}
use Rattle.agg_types.specs.declared.event.What.TheVariants.{Sit, Open, Put, Clear, AddFilter}
use Rattle.agg_types.specs.declared.event.What.TheVariants.{DropFilter, Moment, Leave}
use Rattle.agg_types.specs.declared.row_key.RowKey.{RowKey}
use Rattle.fleet_model.specs.declared.arrival.Arrival.{Arrival}
use Rattle.fleet_model.specs.Normalized.{normalized_cells}
use Rattle.fleet_model.specs.Moments.{is_live, now_of}
use Rattle.fleet_model.specs.Seats.{counts, is_number}
use Rattle.fleet_model.specs.Sessions.{session}
use Rattle.fleet_model.specs.Values.{same_place, cols_of, selects}

-- rows, each at its place
abbrev pub Rows : Type 0
Rows = List (RowKey × Arrival)

-- an event, with what the list before it says of it
pub record Judged : Type 0 where
  pub event : Event
  -- whether it counts
  pub counted : Bool
  -- the row that it leaves, if it is a Put that is taken
  pub row : Option (RowKey × Arrival)
  -- whether it takes away the row at a place, as a Clear may
  pub clears : RowKey → Bool

-- the rows that a peer may hold of a table
abbrev pub size_of : List Shape → ℕ → ℕ
size_of tables table = option_map_or (λ shape. shape.size) (slice_get tables table) 0

-- how many rows a peer holds of a table
abbrev pub held_rows : Rows → ℕ → ℕ → ℕ
held_rows rows table peer = count_by (λ row. (row.0.table == table) && (row.0.peer == peer)) rows

-- all peers together may hold a row more: fewer are in force than their bound, if there is one
abbrev pub takes_more : Option ℕ → Rows → Bool
takes_more None rows = true
takes_more (Some most) rows = nat_lt (length rows) most

-- a peer may put a row where it holds one. A new one needs room: the peer holds fewer of the table
-- than the table's size and, unless the row's life is over at once, all peers may hold a row more
unfoldable pub has_room : Config → Rows → RowKey → Option ℕ → Bool
has_room config rows place life =
    list_any (λ row. same_place place row.0) rows
    || (nat_lt (held_rows rows place.table place.peer) (size_of config.tables place.table)
    && (is_number life 0 || takes_more config.rows rows))

-- the row of a Put that arrives at t
abbrev pub arrival_of : List Shape → ℕ → ℕ → Option ℕ → List Cell → Arrival
arrival_of tables table t life cells =
    record { arrived = t; life = life; cells = normalized_cells (cols_of tables table) cells }

-- the row of a Put of the peer's session in force, if it has room
unfoldable pub row_of : Config → Option ℕ → Rows → ℕ → Event → What → Option (RowKey × Arrival)
row_of config seated rows t e Sit = None
row_of config seated rows t e (Open peer) = None
row_of config seated rows t e (Put peer table key life cells) =
    let place : RowKey = record { table = table; key = key; peer = peer } in
    then_some (is_number seated e.seat && has_room config rows place life)
    (place, arrival_of config.tables table t life cells)
row_of config seated rows t e (Clear table sel) = None
row_of config seated rows t e (AddFilter filter) = None
row_of config seated rows t e (DropFilter name) = None
row_of config seated rows t e (Moment moment) = None
row_of config seated rows t e Leave = None

-- the peer of a Put, and of anything else some number
abbrev pub putter : What → ℕ
putter Sit = 0
putter (Open peer) = 0
putter (Put peer table key life cells) = peer
putter (Clear table sel) = 0
putter (AddFilter filter) = 0
putter (DropFilter name) = 0
putter (Moment moment) = 0
putter Leave = 0

-- whether a Clear takes the row at a place
unfoldable pub clears_at : Config → Rows → ℕ → What → RowKey → Bool
clears_at config rows t Sit place = false
clears_at config rows t (Open peer) place = false
clears_at config rows t (Put peer table key life cells) place = false
clears_at config rows t (Clear table sel) place =
    (place.table == table) && selects (cols_of config.tables table) rows table t sel place.key
clears_at config rows t (AddFilter filter) place = false
clears_at config rows t (DropFilter name) place = false
clears_at config rows t (Moment moment) place = false
clears_at config rows t Leave place = false

abbrev pub if_counted : Bool → Option (RowKey × Arrival) → Option (RowKey × Arrival)
if_counted true row = row
if_counted false row = None

-- an event, judged by the events that counted before it and the rows in force at their moment
unfoldable pub judge_at : Config → List Event → Rows → ℕ → Event → Judged
judge_at config counted rows t e =
    let does = counts config counted e in
    record {
      event = e;
      counted = does;
      row = if_counted does (row_of config (session counted (putter e.what)) rows t e e.what);
      clears = λ place. does && clears_at config rows t e.what place;
    }

abbrev pub puts_at : Option (RowKey × Arrival) → RowKey → Bool
puts_at None place = false
puts_at (Some row) place = same_place place row.0

-- an event that neither puts a row there nor clears it
abbrev pub leaves_alone : RowKey → Judged → Bool
leaves_alone place judged = not (puts_at judged.row place) && not (judged.clears place)

-- a row that lives at t, and that each later event leaves alone
unfoldable pub if_in_force : ℕ → List Judged → Option (RowKey × Arrival) → Option (RowKey × Arrival)
if_in_force t later None = None
if_in_force t later (Some row) =
    then_some (is_live t row.1 && list_all (leaves_alone row.0) later) row

-- the rows in force at t, in the order of their events
unfoldable pub in_force : ℕ → List Judged → List (RowKey × Arrival)
in_force t [] = []
in_force t (judged ∷ later) = cons_option (if_in_force t later judged.row) (in_force t later)

-- the same rows in the order of their places
unfoldable pub by_place : List (RowKey × Arrival) → List (RowKey × Arrival)
by_place rows = fold (λ entries row. insert_entry row_key_cmp entries row.0 row.1) [] rows

-- the events that count
unfoldable pub counted_of : List Judged → List Event
counted_of history = map (λ judged. judged.event) (filter (λ judged. judged.counted) history)

-- the rows in force after a history
unfoldable pub rows_in : ℕ → List Judged → List (RowKey × Arrival)
rows_in opening history = by_place (in_force (now_of opening (counted_of history)) history)
