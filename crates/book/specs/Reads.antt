-- How many values of keys an event may read for the standing filters.
use Rattle.std.specs.Prelude.{◌≡◌, ◌≢◌, ℕ, ◌+◌, ◌*◌, ◌<◌, ◌≤◌, List, count_by}
use Rattle.std.specs.Prelude.{drop, length, max, sum_by, ◌==◌}
use Rattle.std.specs.List.{AllByRecursion, AllZip, IsDistinct}
use Rattle.agg_types.specs.declared.config.Filter.{Filter}
use Rattle.agg_types.specs.declared.event.What.{What}
use Rattle.agg_types.specs.declared.event.What.TheVariants.{Sit, Open, Put, Clear, AddFilter}
use Rattle.agg_types.specs.declared.event.What.TheVariants.{DropFilter, Moment, Leave}
use Rattle.fleet_model.specs.Answers.{keys_of}
use Rattle.fleet_model.specs.Changes.{NoKeyChangesBefore}
use Rattle.fleet_model.specs.Keys.{holds}
use Rattle.fleet_model.specs.State.{State}
use Rattle.fleet_model.specs.Values.{same_key}
use Rattle.book.specs.Verdicts.{with_filter}

-- ---- a quiet event
-- up to t no filter comes to hold a key, and none no longer does
abbrev pub IsQuietUntil : State → ℕ → Type 0
IsQuietUntil state t =
    AllByRecursion (λ filtering. NoKeyChangesBefore state filtering (t + 1)) state.config.filters

-- whether an event says nothing of rows, and no filter is added
abbrev pub IsQuietTo : State → What → Type 0
IsQuietTo state Sit = Unit {0}
IsQuietTo state (Open peer) = Unit {0}
IsQuietTo state (Put peer table key life cells) = ⊥
IsQuietTo state (Clear table sel) = ⊥
IsQuietTo state (AddFilter filtering) = ⊥
IsQuietTo state (DropFilter name) = Unit {0}
IsQuietTo state (Moment moment) = IsQuietUntil state (max state.moment moment)
IsQuietTo state Leave = Unit {0}

-- ---- any other
-- up to t a filter comes to hold a key, or no longer does
abbrev pub IsDueBy : State → ℕ → Filter → List ℕ → Type 0
IsDueBy state t filtering key = (u : ℕ) × (state.moment < u) × (u ≤ t)
    × (holds state filtering key u ≢ holds state filtering key state.moment)

-- keys of which that is so, each once
pub record AreDueBy (state : State) (t : ℕ) (filtering : Filter) (keys : List (List ℕ))
    : Type 0 where
  pub due : AllByRecursion (λ key. IsDueBy state t filtering key) keys
  pub apart : IsDistinct same_key keys

-- at most 505 for each pair of a filter and a key that are due up to t
pub record IsForDue (state : State) (t read : ℕ) : Type 0 where
  -- the keys of each filter
  pub keys : List (List (List ℕ))
  pub due : AllZip (λ filtering ks. AreDueBy state t filtering ks) state.config.filters keys
  pub few : read ≤ 505 * sum_by (λ ks. length ks) keys

-- how many filters of a state are of a table
abbrev pub filters_at : State → ℕ → ℕ
filters_at state table = count_by (λ filtering. filtering.table == table) state.config.filters

-- how many pairs there are of a key and a filter of its table, but for so many first filters
unfoldable pub pairs_from : State → ℕ → ℕ
pairs_from state first =
    sum_by (λ filtering. length (keys_of state filtering.table)) (drop first state.config.filters)

-- At most 505 for each filter of the table of a put row; for each key, by a filter that the event
-- adds; and for each pair that comes due by a moment. None for the others.
abbrev pub IsFewFor : State → State → What → ℕ → Type 0
IsFewFor state later Sit read = read ≡ 0
IsFewFor state later (Open peer) read = read ≡ 0
IsFewFor state later (Put peer table key life cells) read = read ≤ 505 * filters_at state table
IsFewFor state later (Clear table sel) read = read ≡ 0
IsFewFor state later (AddFilter filtering) read =
    read ≤ 505 * pairs_from later (length state.config.filters)
IsFewFor state later (DropFilter name) read = read ≡ 0
IsFewFor state later (Moment moment) read = IsForDue state later.moment read
IsFewFor state later Leave read = read ≡ 0

-- what was read before an event is applied: it is for a filter that the event adds
abbrev pub IsFewBefore : State → What → ℕ → Type 0
IsFewBefore state Sit read = read ≡ 0
IsFewBefore state (Open peer) read = read ≡ 0
IsFewBefore state (Put peer table key life cells) read = read ≡ 0
IsFewBefore state (Clear table sel) read = read ≡ 0
IsFewBefore state (AddFilter filtering) read =
    read ≤ 505 * pairs_from (with_filter state filtering) (length state.config.filters)
IsFewBefore state (DropFilter name) read = read ≡ 0
IsFewBefore state (Moment moment) read = read ≡ 0
IsFewBefore state Leave read = read ≡ 0
