use Rattle.std.specs.Prelude.{ℕ, ◌+◌, List, length, Option, None, Some, fold}
use Rattle.agg_types.specs.declared.row_key.RowKey.{RowKey}
use Rattle.fleet_model.specs.declared.arrival.Arrival.{Arrival}
use Rattle.fleet_model.specs.Answers.{left_of, longer, tally}

-- a tally with more rows
abbrev pub tally_more : ℕ → Option (ℕ × Option ℕ) → List (RowKey × Arrival) → Option (ℕ × Option ℕ)
tally_more t None rows = tally t rows
tally_more t (Some found) rows =
    Some (found.0 + length rows, fold (λ left other. longer left (left_of t other.1)) found.1 rows)

abbrev pub peers_of : Option (ℕ × Option ℕ) → ℕ
peers_of None = 0
peers_of (Some found) = found.0
