-- How a row keeps its cells: one form for all that have the same values at every later moment.
use Rattle.std.specs.Prelude.{◌≡◌, ℕ, ◌+◌, ◌-◌, ◌*◌, List, map, min}
use Rattle.std.specs.List.{zip}
use Rattle.period_rate.specs.Rate.{arrived, zero_moment}
use Rattle.agg_types.specs.declared.column.Col.{Col}
use Rattle.agg_types.specs.declared.event.Cell.{Cell}
use Rattle.agg_types.specs.declared.event.Cell.TheVariants.{Count, Rate}

-- a cell of a column with this period as it is kept: a rate is 0 once two periods have passed,
-- however long ago that was
abbrev pub normalized_cell : ℕ → Cell → Cell
normalized_cell period (Count count) = Count count
normalized_cell period (Rate elapsed cur prev) = Rate (min elapsed (2 * period + 1)) cur prev

-- the cells of a table's columns as they are kept
abbrev pub normalized_cells : List (Col × ℕ) → List Cell → List Cell
normalized_cells cols cells = map (λ stored. normalized_cell stored.0.1 stored.1) (zip cols cells)

-- what a cell keeps as its elapsed time follows from the moment at which it arrived, and the moment
-- from which the rate made of it then is 0
abbrev pub GivesElapsedBack : ℕ → ℕ → ℕ → ℕ → ℕ → Type 0
GivesElapsedBack period elapsed cur prev t =
    let kept : ℕ = min elapsed (2 * period + 1) in
    normalized_cell period (Rate elapsed cur prev)
    ≡ Rate (t + 2 * period + 1 - zero_moment (arrived period kept cur prev t)) cur prev
