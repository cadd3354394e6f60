-- What a row that is kept stands for.
use Rattle.std.specs.Prelude.{◌≡◌, ◌≤◌, ℕ, ◌-◌, List, Option, None, Some, map, slice_get, sum_by}
use Rattle.std.specs.Borrow.{Bor}
use Rattle.std.specs.Option.{option_map}
use Rattle.agg_types.specs.declared.column.Col.{Col}
use Rattle.agg_types.specs.declared.event.Cell.{Cell}
use Rattle.agg_types.specs.declared.event.Cell.TheVariants as cell
use Rattle.agg_types.specs.declared.row_key.RowKey.{RowKey}
use Rattle.fleet_model.specs.Keys.{row_worth}
use Rattle.fleet_model.specs.declared.arrival.Arrival.{Arrival}
use Rattle.peer_rows.specs.declared.row.Held.{Held}
use Rattle.peer_rows.specs.declared.row.Held.TheVariants.{Count, Rate}
use Rattle.peer_rows.specs.Table.{Spot}
use Rattle.peer_rows.specs.declared.row.Row.{Row}
use Rattle.period_rate.specs.Rate.{elapsed_at}
use Rattle.book_rows.specs.Placed.{found_in}

-- a cell as it came at the moment of its arrival
abbrev pub cell_of : ℕ → Held → Cell
cell_of arrived (Count count) = cell.Count count
cell_of arrived (Rate rate) = cell.Rate (elapsed_at rate arrived) rate.cur rate.prev

-- a row with its life and its cells as they came
abbrev pub as_arrival : Row → Arrival
as_arrival row =
    record {
      arrived = row.arrived;
      life = option_map (λ ends. ends - row.arrived) row.ends;
      cells = map (cell_of row.arrived) row.cells;
    }

abbrev pub view_of_row : RowKey × Row → RowKey × Arrival
view_of_row entry = (entry.0, as_arrival entry.1)

-- the rows in force that these stand for
abbrev pub arrivals : List (RowKey × Row) → List (RowKey × Arrival)
arrivals entries = map view_of_row entries

-- a peer's row of a key, as it stands at its place
abbrev pub of_peer : ℕ → List ℕ → ℕ × Row → RowKey × Arrival
of_peer table key p = (record { table = table; key = key; peer = p.0 }, as_arrival p.1)

-- what rows of one key, each with its peer, sum up to in a column at t
abbrev pub rows_worth : List (Col × ℕ) → Col → ℕ → List (ℕ × Row) → ℕ
rows_worth cols col t rows = sum_by (λ p. row_worth cols col t (as_arrival p.1)) rows

-- the same of rows that were found, and nothing where none were
abbrev pub found_worth : List (Col × ℕ) → Col → ℕ → Option (Bor (List (ℕ × Row)))
    → ℕ
found_worth cols col t None = 0
found_worth cols col t (Some rows) = rows_worth cols col t rows.now

-- rows that were found are worth no more than this in a column, at any moment
abbrev pub AreWorthAtMost : List (Col × ℕ) → Col → Option (Bor (List (ℕ × Row)))
    → ℕ → Type 0
AreWorthAtMost cols col rows most = (t : ℕ) → found_worth cols col t rows ≤ most

-- a row is worth this at t in each column of this period that lies where the row holds this cell
abbrev pub IsWorthByCell : ℕ → ℕ → Row → Held → ℕ → Type 0
IsWorthByCell period t row held worth = (cols : List (Col × ℕ)) (col : Col) (place : ℕ)
    → found_in cols col ≡ Some (place, period) → slice_get row.cells place ≡ Some held
    → worth ≡ row_worth cols col t (as_arrival row)

-- a row of a table, as it stands at its place
abbrev pub of_spot : ℕ → Spot × Row → RowKey × Arrival
of_spot table s = (record { table = table; key = s.0.0; peer = s.0.1 }, as_arrival s.1)
