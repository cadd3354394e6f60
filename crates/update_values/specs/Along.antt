-- Cells that are read one behind the other.
use Rattle.std.specs.Prelude.{ℕ, Bool, List, [], ◌∷◌, ◌++◌, Option, Some}
use Rattle.std.specs.Option.{option_map}
use Rattle.peers_msg.specs.Payload.{◌>>=◌, number_at}
use Rattle.agg_types.specs.declared.event.Cell.{Cell}
use Rattle.update_values.specs.declared.plan.Source.{Source}
use Rattle.update_values.specs.declared.plan.Source.TheVariants as sources
use Rattle.update_values.specs.Values.{count_in, rate_in}

-- a count, and the bytes after it
abbrev pub count_at : Bool → List ℕ → Option (Cell × List ℕ)
count_at wide bytes = do
  count ← number_at bytes
  Some (count_in wide (count.0 ∷ []), count.1)

-- a rate, and the bytes after it
abbrev pub rate_at : List ℕ → Option (Cell × List ℕ)
rate_at bytes = do
  elapsed ← number_at bytes
  cur ← number_at elapsed.1
  prev ← number_at cur.1
  Some (rate_in (elapsed.0 ∷ cur.0 ∷ prev.0 ∷ []), prev.1)

-- the cell of a column whose integers are at the front, and the bytes after them
abbrev pub cell_at : Source → List ℕ → Option (Cell × List ℕ)
cell_at (sources.Blank cell) bytes = Some (cell, bytes)
cell_at (sources.Count place wide) bytes = count_at wide bytes
cell_at (sources.Rate place) bytes = rate_at bytes

-- cells, with the next one behind them, and the bytes after it
abbrev pub cells_with : List Cell → Option (Cell × List ℕ) → Option (List Cell × List ℕ)
cells_with cells next =
    option_map (λ (first : Cell × List ℕ). (cells ++ first.0 ∷ [], first.1)) next

-- the cells of columns, one column's integers behind another's
abbrev pub cells_along : List Source → List ℕ → Option (List Cell)
cells_along [] bytes = Some []
cells_along (source ∷ others) bytes = do
  first ← cell_at source bytes
  cells ← cells_along others first.1
  Some (first.0 ∷ cells)
