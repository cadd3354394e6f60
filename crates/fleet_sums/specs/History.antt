use Rattle.std.specs.Prelude.{◌≡◌, ℕ, zero, suc, ◌<◌, ◌≤◌, ◌-◌, ◌^◌, Bool, List, [], ◌∷◌, ◌++◌}
use Rattle.std.specs.Prelude.{Option, Some, None, length, slice_get, slice_index, sum_by, count_by}
use Rattle.std.specs.Prelude.{remove, if◌then◌else◌}
use Rattle.std.specs.Ordering.{is_eq}
use Rattle.std.specs.List.{AllByRecursion}
use Rattle.peer_rows.specs.declared.row.Held.{Held}
use Rattle.peer_rows.specs.Counted.{counted_at}
use Rattle.fleet_sums.specs.Sums.{SumMap, CanDrop, table_key_cmp, sums_of, added, dropped, replaced}

-- a row as the sums see it: its table and key, and its cells
pub record SummedRow : Type 0 where
  pub table : ℕ
  pub key : List ℕ
  pub cells : List Held

-- what happens to sums: a row is added, or one of the rows that stand is dropped or gives way to
-- another of its key, named by its place among them
pub data Change : Type 0 where
  Adds : SummedRow → Change
  Drops : ℕ → Change
  Replaces : ℕ → List Held → Change

-- the rows, of which the one at a place has these cells instead
abbrev pub with_other_cells : List SummedRow → ℕ → List Held → List SummedRow
with_other_cells [] i cells = []
with_other_cells (r ∷ rows) zero cells = record r { cells = cells } ∷ rows
with_other_cells (r ∷ rows) (suc i) cells = r ∷ with_other_cells rows i cells

-- the rows that stand: those added and not dropped, the oldest first
abbrev pub standing : List SummedRow → List Change → List SummedRow
standing rows [] = rows
standing rows (Adds r ∷ changes) = standing (rows ++ r ∷ []) changes
standing rows (Drops i ∷ changes) = standing (remove rows i) changes
standing rows (Replaces i cells ∷ changes) = standing (with_other_cells rows i cells) changes

-- each row added fits its table, and only rows that stand are dropped or replaced
abbrev pub IsFair : List ℕ → List SummedRow → List Change → Type 0
IsFair widths rows [] = Unit {0}
IsFair widths rows (Adds r ∷ changes) =
    (length r.cells ≡ slice_index widths r.table) × IsFair widths (rows ++ r ∷ []) changes
IsFair widths rows (Drops i ∷ changes) = (i < length rows) × IsFair widths (remove rows i) changes
IsFair widths rows (Replaces i cells ∷ changes) =
    (i < length rows) × IsFair widths (with_other_cells rows i cells) changes

-- the sums without a row that stood
abbrev pub dropped_row : SumMap → Option SummedRow → SumMap
dropped_row s None = s
dropped_row s (Some r) = dropped s r.table r.key r.cells

-- the sums with other cells of a row that stood
abbrev pub replaced_row : SumMap → Option SummedRow → List Held → SumMap
replaced_row s None cells = s
replaced_row s (Some r) cells = replaced s r.table r.key r.cells cells

-- the sums after changes, of which each is what `add_row`, `drop_row` or `replace_row` makes of
-- those before
abbrev pub sums_after : SumMap → List SummedRow → List Change → SumMap
sums_after s rows [] = s
sums_after s rows (Adds r ∷ changes) =
    sums_after (added s r.table r.key r.cells) (rows ++ r ∷ []) changes
sums_after s rows (Drops i ∷ changes) =
    sums_after (dropped_row s (slice_get rows i)) (remove rows i) changes
sums_after s rows (Replaces i cells ∷ changes) =
    sums_after (replaced_row s (slice_get rows i) cells) (with_other_cells rows i cells) changes

-- whether a row is one of a table and key
abbrev pub is_row_of : ℕ → List ℕ → SummedRow → Bool
is_row_of table key r = is_eq (table_key_cmp (table, key) (r.table, r.key))

-- the sum of a column over the rows of a table and key
abbrev pub sum_over : ℕ → List ℕ → ℕ → List SummedRow → ℕ
sum_over table key col rows =
    sum_by (λ r. if is_row_of table key r then counted_at r.cells col else 0) rows

-- the sums without a row
abbrev pub empty_sums : List ℕ → SumMap
empty_sums widths = record { widths = widths; entries = [] }

-- after any fair changes a key has as many rows as stand, and each total is the sum over them
abbrev pub TotalsAreSums : Type 0
TotalsAreSums =
    (widths : List ℕ) (changes : List Change) → IsFair widths [] changes
    → (table : ℕ) (key : List ℕ)
    → ((sums_of (sums_after (empty_sums widths) [] changes) table key).rows
    ≡ count_by (is_row_of table key) (standing [] changes))
    × ((col : ℕ) → col < slice_index widths table
    → slice_index (sums_of (sums_after (empty_sums widths) [] changes) table key).totals col
    ≡ sum_over table key col (standing [] changes))

-- a row as tables have it: a cell for each column, none of which counts 2^64
pub record IsWhole (widths : List ℕ) (r : SummedRow) : Type 0 where
  pub width : length r.cells ≡ slice_index widths r.table
  pub small : (col : ℕ) → counted_at r.cells col ≤ 2 ^ 64 - 1

-- after any fair changes each row that stands can be dropped, where all that stand are whole
abbrev pub StandingCanDrop : Type 0
StandingCanDrop = (widths : List ℕ) (changes : List Change) → IsFair widths [] changes
    → AllByRecursion (IsWhole widths) (standing [] changes)
    → (i : ℕ) (r : SummedRow) → slice_get (standing [] changes) i ≡ Some r
    → CanDrop (sums_of (sums_after (empty_sums widths) [] changes) r.table r.key) r.cells
