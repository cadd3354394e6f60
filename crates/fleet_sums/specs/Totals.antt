use Rattle.std.specs.Prelude.{ℕ, ◌+◌, ◌-◌, ◌==◌, ◌≤◌, ◌*◌, ◌^◌, List, [], ◌∷◌, Option, Some, None}
use Rattle.std.specs.Prelude.{if◌then◌else◌, replicate, slice_index}
use Rattle.peer_rows.specs.declared.row.Held.{Held}
use Rattle.peer_rows.specs.Counted.{counted}

-- totals, each with its cell's count worked in
abbrev pub totals_by : (ℕ → ℕ → ℕ) → List ℕ → List Held → List ℕ
totals_by f [] cells = []
totals_by f (t ∷ ts) [] = t ∷ ts
totals_by f (t ∷ ts) (c ∷ cs) = f t (counted c) ∷ totals_by f ts cs

-- the sums of a key: how many rows it has, and the total of each column
pub record KeyTotals : Type 0 where
  pub rows : ℕ
  pub totals : List ℕ

-- no row, and nothing in any column
abbrev pub no_sums : ℕ → KeyTotals
no_sums width = record { rows = 0; totals = replicate width 0 }

-- the sums with one row more
abbrev pub with_row : KeyTotals → List Held → KeyTotals
with_row k cells = record { rows = k.rows + 1; totals = totals_by (λ t n. t + n) k.totals cells }

-- the sums with one row less
abbrev pub with_row_less : KeyTotals → List Held → KeyTotals
with_row_less k cells =
    record { rows = k.rows - 1; totals = totals_by (λ t n. t - n) k.totals cells }

-- the same, or none where it was the last row
abbrev pub without_row : KeyTotals → List Held → Option KeyTotals
without_row k cells = if k.rows == 1 then None else Some (with_row_less k cells)

-- there are at most 2^32 rows, and each total is at most what so many can have counted
pub record IsBounded (k : KeyTotals) : Type 0 where
  pub few : k.rows ≤ 2 ^ 32
  pub bound : (col : ℕ) → slice_index k.totals col ≤ k.rows * (2 ^ 64 - 1)
