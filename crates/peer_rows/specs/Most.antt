-- The most that rows are worth in a column at any moment.
use Rattle.std.specs.Prelude.{◌≡◌, ℕ, zero, suc, ◌+◌, ◌<◌, ◌≤◌, List, [], ◌∷◌, Option, Some, None}
use Rattle.std.specs.Prelude.{length, slice_index, sum_by}
use Rattle.period_rate.specs.Rate as rate
use Rattle.peer_rows.specs.declared.row.Held.{Held}
use Rattle.peer_rows.specs.declared.row.Held.TheVariants.{Count, Rate}
use Rattle.peer_rows.specs.declared.row.Row.{Row}

-- the most that a cell is worth: a count its number, a rate the events of both its periods
abbrev pub most_of : Held → ℕ
most_of (Count n) = n
most_of (Rate r) = rate.most_of r

-- that of the cell of a column, and nothing where there is none
abbrev pub most_at : List Held → ℕ → ℕ
most_at [] col = 0
most_at (c ∷ cs) zero = most_of c
most_at (c ∷ cs) (suc col) = most_at cs col

-- that of a row, if there is one
abbrev pub most_of_row : ℕ → Option Row → ℕ
most_of_row col None = 0
most_of_row col (Some row) = most_at row.cells col

-- that of all rows of a key together
abbrev pub most_in : ℕ → List (ℕ × Row) → ℕ
most_in col rows = sum_by (λ r. most_at r.1.cells col) rows

-- these are that of a key's rows, for as many columns as there are numbers
abbrev pub AreMosts : List ℕ → List (ℕ × Row) → Type 0
AreMosts mosts rows = (col : ℕ) → col < length mosts
    → slice_index mosts col ≡ most_in col rows

-- the rows are worth no more than these
abbrev pub AreAbove : List ℕ → List (ℕ × Row) → Type 0
AreAbove mosts rows = (col : ℕ) → col < length mosts
    → most_in col rows ≤ slice_index mosts col

-- the first numbers are greater by what cells are worth at most
abbrev pub AreAdded : List Held → List ℕ → List ℕ → ℕ → Type 0
AreAdded cells low high columns = (col : ℕ) → col < columns
    → slice_index high col ≡ slice_index low col + most_at cells col

-- the same by a row, if there is one
abbrev pub AreRaised : Option Row → List ℕ → List ℕ → ℕ → Type 0
AreRaised row low high columns = (col : ℕ) → col < columns
    → slice_index high col ≡ slice_index low col + most_of_row col row
