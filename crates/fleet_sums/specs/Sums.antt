use Rattle.std.specs.Prelude.{◌≡◌, ℕ, ◌+◌, ◌≤◌, ◌-◌, ◌*◌, ◌^◌, List, [], ◌∷◌, ◌==◌, Option, Some}
use Rattle.std.specs.Prelude.{None, length, map, filter, unwrap_or, IsSome, slice_index}
use Rattle.std.specs.Ordering.{nat_cmp, ordering_then}
use Rattle.std.specs.Cmp.Lexicographic.{slice_cmp}
use Rattle.std.specs.declared.cmp.Ordering.{Ordering}
use Rattle.std.specs.Map.{keys_of, lookup, remove_entry}
use Rattle.std.specs.BTreeMap.{insert_entry, is_at}
use Rattle.std.specs.List.{AllByRecursion}
use Rattle.std.specs.List.Sorted.{IsStrictlySortedBy}
use Rattle.peer_rows.specs.Spread.{spread}
use Rattle.peer_rows.specs.declared.row.Held.{Held}
use Rattle.peer_rows.specs.Counted.{counted_at}
use Rattle.fleet_sums.specs.Totals.{KeyTotals, no_sums, with_row, with_row_less, without_row}

-- ---- one table

-- the sums of a table's keys: how many columns it has, and the sums of each key with a row, by key
pub record TableSums : Type 0 where
  pub width : ℕ
  pub entries : List (List ℕ × KeyTotals)

-- a map with a value at a key, or without the key where there is none
abbrev pub put_or_take : {K X : Type 0} → (K → K → Ordering) → List (K × X) → K → Option X
    → List (K × X)
put_or_take cmp es k None = remove_entry (is_at (cmp k)) es
put_or_take cmp es k (Some v) = insert_entry cmp es k v

-- the sums of a key, which are zero where it has no row
abbrev pub sums_of_key : TableSums → List ℕ → KeyTotals
sums_of_key t key = unwrap_or (lookup (is_at (slice_cmp nat_cmp key)) t.entries) (no_sums t.width)

-- the keys stand in order, each with a total for each column
pub record IsTable (t : TableSums) : Type 0 where
  pub ordered : IsStrictlySortedBy (slice_cmp nat_cmp) (keys_of t.entries)
  pub whole : AllByRecursion (λ e. length e.1.totals ≡ t.width) t.entries

-- ---- all tables

-- a table and one of its keys
abbrev pub TableKey : Type 0
TableKey = ℕ × List ℕ

abbrev pub table_key : ℕ → List ℕ → TableKey
table_key table key = (table, key)

-- the order of keys: by table, then by key
abbrev pub table_key_cmp : TableKey → TableKey → Ordering
table_key_cmp a b = ordering_then (nat_cmp a.0 b.0) (slice_cmp nat_cmp a.1 b.1)

-- how many columns each table has, and the sums of each key with a row, by table, then by key
pub record SumMap : Type 0 where
  pub widths : List ℕ
  pub entries : List (TableKey × KeyTotals)

-- the sums of a table's key, which are zero where it has no row
abbrev pub sums_of : SumMap → ℕ → List ℕ → KeyTotals
sums_of s table key =
    unwrap_or (lookup (is_at (table_key_cmp (table, key))) s.entries)
    (no_sums (slice_index s.widths table))

-- whether a key has a row
abbrev pub HasRow : SumMap → ℕ → List ℕ → Type 0
HasRow s table key = IsSome (lookup (is_at (table_key_cmp (table, key))) s.entries)

-- a key can lose a row of these cells: it has one, each total is at least the cell's count, and
-- what is left is at most what the rows left can have counted
pub record CanDrop (k : KeyTotals) (cells : List Held) : Type 0 where
  pub some : 1 ≤ k.rows
  pub enough : (col : ℕ) → counted_at cells col ≤ slice_index k.totals col
  pub left : (col : ℕ)
      → slice_index k.totals col - counted_at cells col ≤ (k.rows - 1) * (2 ^ 64 - 1)

-- the sums with one row more at a key
abbrev pub added : SumMap → ℕ → List ℕ → List Held → SumMap
added s table key cells =
    record s {
      entries = insert_entry table_key_cmp s.entries (table, key)
          (with_row (sums_of s table key) cells);
    }

-- the sums with one row less at a key, which goes with its last row
abbrev pub dropped : SumMap → ℕ → List ℕ → List Held → SumMap
dropped s table key cells =
    record s {
      entries = put_or_take table_key_cmp s.entries (table, key)
          (without_row (sums_of s table key) cells);
    }

-- the sums with one row of a key in the place of another
abbrev pub replaced : SumMap → ℕ → List ℕ → List Held → List Held → SumMap
replaced s table key old new =
    record s {
      entries = insert_entry table_key_cmp s.entries (table, key)
          (with_row (with_row_less (sums_of s table key) old) new);
    }

-- the keys of a table that have a row, in order
abbrev pub keys_in : SumMap → ℕ → List (List ℕ)
keys_in s table = map (λ e. e.0.1) (filter (λ e. table == e.0.0) s.entries)

-- tables with their positions, from n on
abbrev pub numbered : ℕ → List TableSums → List (ℕ × List (List ℕ × KeyTotals))
numbered n [] = []
numbered n (t ∷ ts) = (n, t.entries) ∷ numbered (n + 1) ts

-- the sums of all tables
abbrev pub placed : List TableSums → List (TableKey × KeyTotals)
placed tables = spread table_key (numbered 0 tables)
