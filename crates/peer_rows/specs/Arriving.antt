-- The cells of an update that arrive at a moment, as a row holds them.
use Rattle.std.specs.Prelude.{◌≡◌, ◌≢◌, ℕ, ◌+◌, ◌*◌, ◌^◌, ◌<◌, Bool, true, false, List, []}
use Rattle.std.specs.Prelude.{map, min}
use Rattle.std.specs.List.{AllByRecursion, zip}
use Rattle.agg_types.specs.declared.column.Col.{Col}
use Rattle.agg_types.specs.declared.event.Cell.{Cell}
use Rattle.agg_types.specs.declared.event.Cell.TheVariants.{Count, Rate}
use Rattle.period_rate.specs.Rate.{arrived}
use Rattle.peer_rows.specs.Laid.{StoredRow, stored}
use Rattle.peer_rows.specs.declared.arrival.Arrival.{Arrival}
use Rattle.peer_rows.specs.declared.arrival.Arrived.{Arrived}
use Rattle.peer_rows.specs.declared.arrival.Arrived.TheVariants as came
use Rattle.peer_rows.specs.declared.row.Held.{Held}
use Rattle.peer_rows.specs.declared.row.Held.TheVariants as held

-- a cell that arrives at a moment in a column with a period, as a row holds it: a rate's elapsed
-- time counts as no longer than two periods and 1
abbrev pub arriving_cell : ℕ → ℕ → Cell → Held
arriving_cell t period (Count n) = held.Count n
arriving_cell t period (Rate elapsed cur prev) =
    held.Rate (arrived period (min elapsed (2 * period + 1)) cur prev t)

-- the cells of a table's columns, each with its period
abbrev pub arriving : ℕ → List (Col × ℕ) → List Cell → List Held
arriving t cols cells = map (λ c. arriving_cell t c.0.1 c.1) (zip cols cells)

-- the row of cells that arrive
abbrev pub arrived_row : Arrival → StoredRow
arrived_row a = stored (arriving a.t a.cols.now a.cells.now) a.t a.life

-- each column's period is below 2^24 ms
abbrev pub AreShort : List (Col × ℕ) → Type 0
AreShort cols = AllByRecursion (λ c. c.1 < 2 ^ 24) cols

-- whether the first row of a key was laid down
abbrev pub is_new : Arrived → Bool
is_new came.New = true
is_new (came.Held spot) = false
is_new came.Misfit = false

-- the rows that a key had when its first row was to arrive: none where that was laid down, some
-- where the key is held, and none or some after a misfit
abbrev pub HasCome : {X : Type 0} → Arrived → List X → Type 0
HasCome came.New rows = rows ≡ []
HasCome (came.Held spot) rows = rows ≢ []
HasCome came.Misfit rows = Unit {0}
