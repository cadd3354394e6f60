-- What holds of each state that a list of events leaves.
use Rattle.std.specs.Prelude.{◌≡◌, ◌≢◌, ◌⊎◌, ℕ, ◌≤◌, ◌==◌, ◌&&◌, Bool, true, false, List, Some, map}
use Rattle.std.specs.Prelude.{count_by, length, Option, None, IfSome, is_none, not, ◌∷◌, ◌++◌}
use Rattle.std.specs.BTreeMap.{is_at}
use Rattle.std.specs.Cmp.Lexicographic.{slice_cmp}
use Rattle.std.specs.List.{All, AllByRecursion, list_all, list_any}
use Rattle.std.specs.List.Sorted.{IsStrictlySortedBy}
use Rattle.std.specs.Map.{keys_of, lookup}
use Rattle.std.specs.Option.{option_map_or}
use Rattle.std.specs.Ordering.{nat_cmp}
use Rattle.std.specs.declared.cmp.Ordering.TheVariants.{Less}
use Rattle.agg_types.specs.Col.{all_cols}
use Rattle.agg_types.specs.Op.{op_holds}
use Rattle.agg_types.specs.RowKey.{row_key_cmp}
use Rattle.agg_types.specs.declared.column.Col.{Col}
use Rattle.agg_types.specs.declared.config.Config.{Config}
use Rattle.agg_types.specs.declared.config.Filter.{Filter}
use Rattle.agg_types.specs.declared.config.Rank.{Rank}
use Rattle.agg_types.specs.declared.event.Event.{Event}
use Rattle.agg_types.specs.declared.event.What.{What}
use Rattle.agg_types.specs.declared.event.What.TheVariants.{Sit, Open, Put, Clear, AddFilter}
use Rattle.agg_types.specs.declared.event.What.TheVariants.{DropFilter, Moment, Leave}
use Rattle.agg_types.specs.declared.row_key.RowKey.{RowKey}
use Rattle.fleet_model.specs.Answers.{key_value, left_of, rows_of, set_at, summed}
use Rattle.fleet_model.specs.Filters.{is_added, is_new}
use Rattle.fleet_model.specs.Machine.{counts_now, session_of}
use Rattle.fleet_model.specs.Moments.{is_live}
use Rattle.fleet_model.specs.Ranking.{Entries, rank_cmp, ranked, with_value}
use Rattle.fleet_model.specs.Rows.{clears_at, has_room, held_rows, if_counted, putter, puts_at}
use Rattle.fleet_model.specs.Rows.{row_of, size_of}
use Rattle.fleet_model.specs.Seats.{is_number}
use Rattle.fleet_model.specs.Sessions.{opens}
use Rattle.fleet_model.specs.State.{State, state_of}
use Rattle.fleet_model.specs.Values.{cols_of, is_of, same_key, value}
use Rattle.fleet_model.specs.declared.arrival.Arrival.{Arrival}
use Rattle.fleet_model.specs.declared.summed.Summed.{Summed}

-- rows ascend strictly by place, sessions by peer, and seats by number
pub record IsOrdered (state : State) : Type 0 where
  pub rows : IsStrictlySortedBy row_key_cmp (keys_of state.rows)
  pub sessions : IsStrictlySortedBy nat_cmp (keys_of state.sessions)
  pub seats : IsStrictlySortedBy nat_cmp (keys_of state.seats)

-- each row lives at the state's moment
abbrev pub AreLive : State → Type 0
AreLive state = AllByRecursion (λ row. is_live state.moment row.1 ≡ true) state.rows

-- each peer holds at most as many rows of a table as the table's size
abbrev pub IsWithinSizes : State → Type 0
IsWithinSizes state =
    (table peer : ℕ) → held_rows state.rows table peer ≤ size_of state.config.tables table

-- all peers together hold at most as many rows as the configuration's bound, if it has one
abbrev pub IsWithinBound : State → Type 0
IsWithinBound state = IfSome state.config.rows (λ most. length state.rows ≤ most)

-- two states that answer alike: configuration, moment, rows, and so every summed row, set and
-- ranked list
pub record AnswersAlike (state later : State) : Type 0 where
  pub config : later.config ≡ state.config
  pub moment : later.moment ≡ state.moment
  pub rows : later.rows ≡ state.rows
  pub sums : (table : ℕ) (key : List ℕ) → summed later table key ≡ summed state table key
  pub sets : (filter : Filter) (t : ℕ) → set_at later filter t ≡ set_at state filter t
  pub rankings : (rank : Rank) → ranked later rank ≡ ranked state rank

-- an event that says nothing: a moment that isn't later, or a Put that has no room or isn't of its
-- peer's session in force. So is a filter that isn't taken, or one to be dropped that no event
-- added
abbrev pub SaysNothing : State → ℕ → What → Type 0
SaysNothing state seat Sit = ⊥
SaysNothing state seat (Open peer) = ⊥
SaysNothing state seat (Put peer table key life cells) =
    let place : RowKey = record { table = table; key = key; peer = peer } in
    (session_of state peer ≢ Some seat) ⊎ (has_room state.config state.rows place life ≡ false)
SaysNothing state seat (Clear table sel) = ⊥
SaysNothing state seat (AddFilter filter) = is_new state.config.filters filter ≡ false
SaysNothing state seat (DropFilter name) =
    is_added state.configured state.config.filters name ≡ false
SaysNothing state seat (Moment moment) = moment ≤ state.moment
SaysNothing state seat Leave = ⊥

-- a seat opens a peer
abbrev pub opens_at : ℕ → ℕ → Event → Bool
opens_at seat peer e = (e.seat == seat) && opens peer e.what

-- some row of a key lives at t
abbrev pub has_live_row : List (RowKey × Arrival) → ℕ → List ℕ → ℕ → Bool
has_live_row rows table key t = list_any (is_of table key t) rows

abbrev pub is_key_among : List ℕ → List (List ℕ) → Bool
is_key_among key keys = list_any (same_key key) keys

-- the keys of a table with a row, each once and in order
pub record IsKeyList (state : State) (table : ℕ) (keys : List (List ℕ)) : Type 0 where
  pub in_order : IsStrictlySortedBy (slice_cmp nat_cmp) keys
  pub exact : (key : List ℕ)
      → is_key_among key keys ≡ has_live_row state.rows table key state.moment

-- the keys that a filter holds at t, each once and in order: exactly those with a row that lives
-- then, and of whose values each condition holds
pub record IsSetAt (state : State) (filter : Filter) (t : ℕ) (keys : List (List ℕ)) : Type 0 where
  pub in_order : IsStrictlySortedBy (slice_cmp nat_cmp) keys
  pub exact :
      (key : List ℕ) → is_key_among key keys
      ≡ (has_live_row state.rows filter.table key t && list_all (λ cond. op_holds cond.op
      (key_value state filter.table key cond.col t) cond.bound) filter.conds)

-- the keys of a table with a row, each with its value of the column, the larger value first and of
-- equal ones the smaller key
pub record IsRanking (state : State) (table : ℕ) (col : Col) (entries : Entries) : Type 0 where
  pub in_order : IsStrictlySortedBy rank_cmp entries
  pub keys :
      (key : List ℕ) → is_key_among key (map (λ entry. entry.0) entries)
      ≡ has_live_row state.rows table key state.moment
  pub values : All (λ entry. entry.1 ≡ key_value state table entry.0 col state.moment) entries

-- the beginning of a table's ranking: keys with a row, each with its value of the column, in order,
-- and all other keys with a row behind each of them
pub record IsRankingStart (state : State) (table : ℕ) (col : Col) (entries : Entries) : Type 0 where
  pub in_order : IsStrictlySortedBy rank_cmp entries
  pub live : All (λ entry. has_live_row state.rows table entry.0 state.moment ≡ true) entries
  pub values : All (λ entry. entry ≡ with_value state table col entry.0) entries
  pub behind :
      (key : List ℕ) → has_live_row state.rows table key state.moment ≡ true
      → is_key_among key (map (λ entry. entry.0) entries) ≡ false
      → All (λ entry. rank_cmp entry (with_value state table col key) ≡ Less) entries

-- a life that ends, within so many ms
abbrev pub IsWithin : ℕ → Option ℕ → Type 0
IsWithin most None = ⊥
IsWithin most (Some left) = left ≤ most

-- none where some row never ends, else the most that a row has left
abbrev pub IsLongestLeft : ℕ → List (RowKey × Arrival) → Option ℕ → Type 0
IsLongestLeft t rows None = list_any (λ row. is_none (left_of t row.1)) rows ≡ true
IsLongestLeft t rows (Some left) =
    All (λ row. IsWithin left (left_of t row.1)) rows
    × (list_any (λ row. is_number (left_of t row.1) left) rows ≡ true)

-- what the rows of a key sum up to
pub record IsSumOf (state : State) (table : ℕ) (key : List ℕ) (sums : Summed) : Type 0 where
  pub peers : sums.peers ≡ count_by (is_of table key state.moment) state.rows
  pub left : IsLongestLeft state.moment (rows_of state table key) sums.left
  pub values : sums.values ≡ map (λ col. key_value state table key col state.moment) all_cols

-- the summed row of a key, or none where no row of it lives
abbrev pub IsSummedRow : State → ℕ → List ℕ → Option Summed → Type 0
IsSummedRow state table key None = has_live_row state.rows table key state.moment ≡ false
IsSummedRow state table key (Some sums) =
    (has_live_row state.rows table key state.moment ≡ true) × IsSumOf state table key sums

-- what a row at a place adds to a sum, if there is one
abbrev pub worth_at : (RowKey × Arrival → ℕ) → List (RowKey × Arrival) → RowKey → ℕ
worth_at f rows place =
    option_map_or (λ row. f (place, row)) (lookup (is_at (row_key_cmp place)) rows) 0

-- the row that an event puts: that of a Put that counts, of its peer's session in force, with room
abbrev pub put_by : State → Event → Option (RowKey × Arrival)
put_by state e =
    if_counted (counts_now state e)
    (row_of state.config (session_of state (putter e.what)) state.rows state.moment e e.what)

-- an event that neither puts a row at a place nor clears it
abbrev pub passes_by : State → Event → RowKey → Bool
passes_by state e place =
    not (puts_at (put_by state e) place)
    && not (counts_now state e && clears_at state.config state.rows state.moment e.what place)

-- a row is in force: some event put it, in what the events before left; it lives; and each later
-- event, in what the events before that one left, passed by its place
pub record IsInForce (config : Config) (opening : ℕ) (events : List Event)
    (row : RowKey × Arrival) : Type 0 where
  pub before : List Event
  pub put : Event
  pub later : List Event
  pub split : events ≡ before ++ put ∷ later
  pub taken : put_by (state_of config opening before) put ≡ Some row
  pub lives : is_live (state_of config opening events).moment row.1 ≡ true
  pub passed_by :
      (some : List Event) (e : Event) (rest : List Event) → later ≡ some ++ e ∷ rest
      → passes_by (state_of config opening (before ++ put ∷ some)) e row.0 ≡ true
