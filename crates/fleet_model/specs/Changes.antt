-- When the truth of a filter at one key changes by the clock alone, and from when on it can't.
use Rattle.std.specs.Prelude.{◌≡◌, ◌≢◌, ℕ, ◌+◌, ◌-◌, ◌*◌, ◌<◌, ◌≤◌, Bool, List, [], ◌∷◌, Option}
use Rattle.std.specs.Prelude.{None, Some, max}
use Rattle.std.specs.Option.{unwrap_or}
use Rattle.agg_types.specs.declared.column.Col.{Col}
use Rattle.agg_types.specs.declared.config.Filter.{Filter}
use Rattle.agg_types.specs.declared.event.Cell.{Cell}
use Rattle.agg_types.specs.declared.event.Cell.TheVariants.{Count, Rate}
use Rattle.fleet_model.specs.Keys.{Rows, holds}
use Rattle.fleet_model.specs.State.{State}
use Rattle.fleet_model.specs.declared.arrival.Arrival.{Arrival}

-- the first moment above now at which a test is another than now
pub record TurnsFirstAt (test : ℕ → Bool) (now t : ℕ) : Type 0 where
  pub later : now < t
  pub differs : test t ≢ test now
  pub same_before : (u : ℕ) → now < u → u < t → test u ≡ test now

-- that moment, or none where the test stays as it is
abbrev pub IsTurn : (ℕ → Bool) → ℕ → Option ℕ → Type 0
IsTurn test now None = (t : ℕ) → now < t → test t ≡ test now
IsTurn test now (Some t) = TurnsFirstAt test now t

-- the next moment at which a filter holds a key, where it doesn't now, or the other way round
abbrev pub IsKeyChange : State → Filter → List ℕ → Option ℕ → Type 0
IsKeyChange state filtering key next = IsTurn (λ t. holds state filtering key t) state.moment next

-- up to t nothing changes at any key
abbrev pub NoKeyChangesBefore : State → Filter → ℕ → Type 0
NoKeyChangesBefore state filtering t =
    (key : List ℕ) (u : ℕ) → state.moment < u → u < t
    → holds state filtering key u ≡ holds state filtering key state.moment

-- the moment from which the clock changes nothing of a cell: that at which its rate is 0
abbrev pub cell_flat_from : ℕ → ℕ → Cell → ℕ
cell_flat_from arrived period (Count count) = 0
cell_flat_from arrived period (Rate elapsed cur prev) = arrived + 2 * period + 1 - elapsed

-- the moment from which it changes nothing of any cell
abbrev pub cells_flat_from : ℕ → List (Col × ℕ) → List Cell → ℕ
cells_flat_from arrived [] cells = 0
cells_flat_from arrived (col ∷ cols) [] = 0
cells_flat_from arrived (col ∷ cols) (cell ∷ cells) =
    max (cell_flat_from arrived col.1 cell) (cells_flat_from arrived cols cells)

-- the moment from which it changes nothing of a row: its rates are 0, and its life is over if it
-- ends
abbrev pub row_flat_from : List (Col × ℕ) → Arrival → ℕ
row_flat_from cols row =
    max (row.arrived + unwrap_or row.life 0) (cells_flat_from row.arrived cols row.cells)

-- the moment from which it changes nothing of any of these rows
abbrev pub rows_flat_from : List (Col × ℕ) → Rows → ℕ
rows_flat_from cols [] = 0
rows_flat_from cols (row ∷ rows) = max (row_flat_from cols row.1) (rows_flat_from cols rows)
