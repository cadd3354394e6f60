-- When a filter's set changes by the clock alone.
use Rattle.std.specs.Prelude.{◌≡◌, ◌≢◌, ℕ, ◌+◌, ◌*◌, ◌<◌, ◌≤◌, List, [], ◌∷◌, Option, None, Some}
use Rattle.std.specs.Prelude.{max}
use Rattle.std.specs.Option.{unwrap_or}
use Rattle.agg_types.specs.declared.column.Col.{Col}
use Rattle.agg_types.specs.declared.config.Filter.{Filter}
use Rattle.fleet_model.specs.Answers.{set_at}
use Rattle.agg_types.specs.declared.row_key.RowKey.{RowKey}
use Rattle.fleet_model.specs.State.{State}
use Rattle.fleet_model.specs.Values.{cols_of}
use Rattle.fleet_model.specs.declared.arrival.Arrival.{Arrival}

-- the first moment above the state's at which the set is another
pub record ChangesFirstAt (state : State) (filter : Filter) (t : ℕ) : Type 0 where
  pub later : state.moment < t
  pub differs : set_at state filter t ≢ set_at state filter state.moment
  pub same_before : (u : ℕ) → state.moment < u → u < t
      → set_at state filter u ≡ set_at state filter state.moment

-- the least moment above the state's at which the set differs from what it is now, or none where it
-- never does
abbrev pub IsNextChange : State → Filter → Option ℕ → Type 0
IsNextChange state filter None = (t : ℕ) → state.moment < t
    → set_at state filter t ≡ set_at state filter state.moment
IsNextChange state filter (Some t) = ChangesFirstAt state filter t

-- the same up to a last moment: the least one at which the set differs, or none where it doesn't up
-- to then
abbrev pub IsNextChangeBy : State → Filter → ℕ → Option ℕ → Type 0
IsNextChangeBy state filter last None = (t : ℕ) → state.moment < t → t ≤ last
    → set_at state filter t ≡ set_at state filter state.moment
IsNextChangeBy state filter last (Some t) = ChangesFirstAt state filter t × (t ≤ last)

-- the longest period of some columns
abbrev pub longest_period : List (Col × ℕ) → ℕ
longest_period [] = 0
longest_period (col ∷ cols) = max col.1 (longest_period cols)

-- the moment from which the clock changes nothing of a row: its life is over, if it ends, and its
-- rates are 0
abbrev pub flat_from : ℕ → Arrival → ℕ
flat_from longest row = row.arrived + max (2 * longest + 1) (unwrap_or row.life 0)

-- the moment from which it changes nothing of any row
abbrev pub flat_moment : ℕ → List (RowKey × Arrival) → ℕ
flat_moment longest [] = 0
flat_moment longest (row ∷ rows) = max (flat_from longest row.1) (flat_moment longest rows)

-- the moment from which the clock changes no set of a table's filters
abbrev pub table_flat_from : State → ℕ → ℕ
table_flat_from state table =
    flat_moment (longest_period (cols_of state.config.tables table)) state.rows
