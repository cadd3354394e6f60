-- Small runs made by hand, and what they show.
use Rattle.std.specs.Prelude.{ℕ, ◌==◌, if◌then◌else◌, List, [], ◌∷◌, ◌++◌, codes, Option, None}
use Rattle.std.specs.Prelude.{Some, map, fold, count_by}
use Rattle.agg_types.specs.Col.{all_cols, same_col}
use Rattle.agg_types.specs.declared.column.Col.{Col}
use Rattle.agg_types.specs.declared.column.Col.TheVariants.{Gpc0}
use Rattle.agg_types.specs.declared.config.Config.{Config}
use Rattle.agg_types.specs.declared.config.Filter.{Filter}
use Rattle.agg_types.specs.declared.config.KeyKind.TheVariants.{Ip}
use Rattle.agg_types.specs.declared.config.Op.{Op}
use Rattle.agg_types.specs.declared.config.Op.TheVariants.{Ge}
use Rattle.agg_types.specs.declared.config.Cond.{Cond}
use Rattle.agg_types.specs.declared.config.Rank.{Rank}
use Rattle.agg_types.specs.declared.config.Shape.{Shape}
use Rattle.agg_types.specs.declared.event.Cell.{Cell}
use Rattle.agg_types.specs.declared.event.Cell.TheVariants.{Count, Rate}
use Rattle.agg_types.specs.declared.event.Event.{Event}
use Rattle.agg_types.specs.declared.event.What.{What}
use Rattle.agg_types.specs.declared.event.What.TheVariants.{Sit, Open, Put, AddFilter, Moment}
use Rattle.agg_types.specs.declared.event.What.TheVariants.{Leave}
use Rattle.fleet_model.specs.Answers.{keys_of, summed}
use Rattle.fleet_model.specs.Machine.{event_of}
use Rattle.fleet_model.specs.State.{State, state_of}
use Rattle.fleet_model.specs.declared.summed.Summed.{Summed}

-- a table of IPv4 keys with this size and column
abbrev pub table_of : (size : ℕ) → Col → (period : ℕ) → Shape
table_of size col period =
    record { name = codes "t"; kind = Ip; size = size; keep = None; cols = (col, period) ∷ [] }

-- two peers, and one table of IPv4 keys with this size and column
unfoldable pub fleet_of : (size : ℕ) → Col → (period : ℕ) → List Filter → Config
fleet_of size col period filters =
    record {
      me = codes "agg";
      peers = codes "lb1" ∷ codes "lb2" ∷ [];
      tables = table_of size col period ∷ [];
      filters = filters;
      ranks = [];
      pushes = [];
      rows = None;
      logs = [];
      ignored = [];
    }

-- the key 10.0.0.n
unfoldable pub ip : ℕ → List ℕ
ip n = 10 ∷ 0 ∷ 0 ∷ n ∷ []

-- the column's only condition
unfoldable pub filter_on : Col → Op → ℕ → Filter
filter_on col op bound =
    let cond : Cond = record { col = col; op = op; bound = bound } in
    record { name = codes "f"; table = 0; conds = cond ∷ [] }

-- a peer's row of a key with one cell
unfoldable pub row : (peer : ℕ) → (n : ℕ) → (life : Option ℕ) → Cell → What
row peer n life cell = Put peer 0 (ip n) life (cell ∷ [])

-- how many of these events are a seat's
abbrev pub number_in : List Event → ℕ → ℕ
number_in events seat = count_by (λ e. e.seat == seat) events

-- things that happen at seats, as events, each with its seat's next number
unfoldable pub in_turn : List (ℕ × What) → List Event
in_turn happenings =
    fold (λ events h. events ++ event_of h.0 (number_in events h.0) h.1 ∷ []) [] happenings

-- what a list of things that happen from moment 0 on leaves
unfoldable pub left_by : Config → List (ℕ × What) → State
left_by config happenings = state_of config 0 (in_turn happenings)

-- the keys of the table, each with its summed row
unfoldable pub view_of_table : State → List (List ℕ × Option Summed)
view_of_table state = map (λ key. (key, summed state 0 key)) (keys_of state 0)

-- a summed row that has a value of one column alone
unfoldable pub sums_to : Col → (peers : ℕ) → (left : Option ℕ) → (value : ℕ) → Option Summed
sums_to col peers left value =
    let values : List ℕ = map (λ other. if same_col other col then value else 0) all_cols in
    Some (record { peers = peers; left = left; values = values })

-- a seat sits down and speaks for a peer
unfoldable pub joined : (seat peer : ℕ) → List (ℕ × What)
joined seat peer = (seat, Sit) ∷ (seat, Open peer) ∷ []

-- a table of two rows, full, and one row more
unfoldable pub full_table : List (ℕ × What)
full_table =
    (0, Sit) ∷ joined 1 0
    ++ (1, row 0 1 (Some 100) (Count 1)) ∷ (1, row 0 2 (Some 60000) (Count 2)) ∷
    (1, row 0 3 (Some 60000) (Count 3)) ∷ []

-- a fleet whose peers may hold so many rows together
unfoldable pub bounded : ℕ → Config → Config
bounded most config = record config { rows = Some most }

-- three rows of two peers, of which one lives 100 ms
unfoldable pub three_rows : List (ℕ × What)
three_rows =
    (0, Sit) ∷ joined 1 0 ++ joined 2 1
    ++ (1, row 0 1 (Some 100) (Count 1)) ∷ (1, row 0 2 None (Count 2)) ∷
    (2, row 1 2 None (Count 3)) ∷ []

-- the first session is lost, the second is taken over by the third, and still says something
unfoldable pub reconnected : List (ℕ × What)
reconnected =
    joined 1 0 ++ (1, row 0 1 None (Count 5)) ∷ (1, Leave) ∷ []
    ++ joined 2 0 ++ (2, row 0 1 None (Count 7)) ∷ []
    ++ joined 3 0 ++ (2, row 0 2 None (Count 9)) ∷ []

-- a row that arrives at 500 and lives 1,000 ms
unfoldable pub lives_over : List (ℕ × What)
lives_over = (0, Sit) ∷ joined 1 0 ++ (0, Moment 500) ∷ (1, row 0 1 (Some 1000) (Count 5)) ∷ []

-- a key of two peers that sums to 11, and one of one peer with 9
unfoldable pub cleared_on_sums : List (ℕ × What)
cleared_on_sums =
    (0, Sit) ∷ joined 1 0 ++ joined 2 1
    ++ (1, row 0 1 None (Count 6)) ∷ (1, row 0 2 None (Count 9)) ∷ (2, row 1 1 None (Count 5)) ∷ []

-- a key of two peers, each with 3 events in the period before the running one
unfoldable pub summed_rates : List (ℕ × What)
summed_rates = (0, Sit) ∷ joined 1 0 ++ joined 2 1
    ++ (1, row 0 1 None (Rate 0 0 3)) ∷ (2, row 1 1 None (Rate 500 0 3)) ∷ []

-- the first of these two rows alone
unfoldable pub one_rate : List (ℕ × What)
one_rate = (0, Sit) ∷ joined 1 0 ++ (1, row 0 1 None (Rate 0 0 3)) ∷ []

-- a rate that runs on for ten seconds
unfoldable pub slow_rate : List (ℕ × What)
slow_rate = (0, Sit) ∷ joined 1 0 ++ (1, row 0 1 None (Rate 0 30 100)) ∷ []

-- two keys, and then a filter that is added
unfoldable pub added_late : List (ℕ × What)
added_late =
    (0, Sit) ∷ joined 1 0
    ++ (1, row 0 1 None (Count 5)) ∷ (1, row 0 2 None (Count 4)) ∷
    (0, AddFilter (filter_on Gpc0 Ge 5)) ∷ []

-- three keys with one value
unfoldable pub equal_keys : List (ℕ × What)
equal_keys =
    (0, Sit) ∷ joined 1 0
    ++ (1, row 0 3 None (Count 5)) ∷ (1, row 0 1 None (Count 5)) ∷
    (1, row 0 2 None (Count 5)) ∷ []

-- a rate of the period before that is nearly over, and two that begin
unfoldable pub falling_keys : List (ℕ × What)
falling_keys =
    (0, Sit) ∷ joined 1 0
    ++ (1, row 0 3 None (Rate 0 0 100)) ∷ (0, Moment 990) ∷ (1, row 0 1 None (Rate 0 5 0)) ∷
    (1, row 0 2 None (Rate 0 3 0)) ∷ []

-- the first two keys by a column
unfoldable pub first_two : Col → Rank
first_two col = record { name = codes "top"; table = 0; col = col; n = 2 }
