-- What becomes of all sums where those of one table change.
use Rattle.std.proofs.Common.{◌≡◌, ℕ, zero, suc, ◌+◌, ◌<◌, Bool, true, false, ◌&&◌, List, [], ◌∷◌}
use Rattle.std.proofs.Common.{length, refl, sym, ◌∙◌, ap, arith, get_or, set}
use Rattle.std.specs.Option.{option_and_then}
use Rattle.std.specs.Prelude.{Option, Some, None, filter, map, ◌==◌, slice_get, Result, Ok, Err}
use Rattle.std.specs.Prelude.{OnOk}
use Rattle.agg_types.specs.declared.no_memory.NoMemory.{NoMemory}
use Rattle.peer_rows.specs.declared.row.Held.{Held}
use Rattle.std.specs.declared.cmp.Ordering.{Ordering}
use Rattle.std.specs.declared.cmp.Ordering.TheVariants.{Less, Equal, Greater}
use Rattle.std.specs.Ordering.{is_eq, nat_cmp, ordering_then}
use Rattle.std.specs.Cmp.{nat_cmp_total, nat_cmp_is, unsigned_ties}
use Rattle.std.specs.Cmp.Lexicographic.{slice_cmp}
use Rattle.std.specs.Map.{keys_of, lookup, remove_entry, set_value}
use Rattle.std.specs.BTreeMap.{insert_entry, is_at}
use Rattle.std.specs.List.Sorted.{IsStrictlySortedBy}
use Rattle.std.proofs.lemmas.Map.Lookups.{exact_unsigned}
use Rattle.agg_types.specs.declared.config.Shape.{Shape}
use Rattle.peer_rows.specs.Spread.{spread}
use Rattle.std.proofs.lemmas.Cmp.{tied_itself}
use Rattle.place_index.proofs.Sorted.{AllAbove}
use Rattle.peer_rows.proofs.Selecting.{PassesOnce}
use Rattle.peer_rows.proofs.Spreading.{PassesOnce-sorted, lookup-spread, remove_entry-spread}
use Rattle.peer_rows.proofs.Spreading.{map-filter-spread, insert_entry-spread}
use Rattle.fleet_sums.specs.Totals.{KeyTotals, with_row, with_row_less, without_row}
use Rattle.fleet_sums.specs.Sums.{TableSums, TableKey, table_key, table_key_cmp, put_or_take}
use Rattle.fleet_sums.specs.Sums.{numbered, placed, sums_of, sums_of_key, SumMap, keys_in, added}
use Rattle.fleet_sums.specs.Sums.{dropped, replaced}

-- a table in another's place
numbered-set : (ts : List TableSums) (i t n : ℕ) (new : TableSums) → t ≡ n + i
    → numbered n (set ts i new) ≡ set_value (is_at (nat_cmp t)) (numbered n ts) new.entries
numbered-set [] i t n new is = refl
numbered-set (x ∷ ts) zero t n new is = let same : t ≡ n = omega (arith, is) in
    rw (same, tied_itself nat_cmp_total n) refl
numbered-set (x ∷ ts) (suc i) t n new is =
    let above : nat_cmp t n ≡ Greater = sym (nat_cmp_is t n Greater (omega (arith, is))) in
    rw above (ap (λ rest. (n, x.entries) ∷ rest)
    (numbered-set ts i t (n + 1) new (omega (arith, is))))

-- a table is found by its position
lookup-numbered : (ts : List TableSums) (i t n : ℕ) (table : TableSums) → t ≡ n + i
    → slice_get ts i ≡ Some table → lookup (is_at (nat_cmp t)) (numbered n ts) ≡ Some table.entries
lookup-numbered [] i t n table is found = cc
lookup-numbered (x ∷ ts) zero t n table is found = let same : t ≡ n = omega (arith, is) in
    let first : x ≡ table = cc in rw (same, tied_itself nat_cmp_total n, first) refl
lookup-numbered (x ∷ ts) (suc i) t n table is found =
    let above : nat_cmp t n ≡ Greater = sym (nat_cmp_is t n Greater (omega (arith, is))) in
    rw above (lookup-numbered ts i t (n + 1) table (omega (arith, is)) found)

above-numbered : (ts : List TableSums) (k n : ℕ) → k < n → AllAbove nat_cmp k (numbered n ts)
above-numbered [] k n less = tt
above-numbered (x ∷ ts) k n less =
    (sym (nat_cmp_is k n Less less), above-numbered ts k (n + 1) (omega (arith, less)))

sorted-numbered : (ts : List TableSums) (n : ℕ)
    → IsStrictlySortedBy nat_cmp (keys_of (numbered n ts))
unfolding IsStrictlySortedBy
sorted-numbered [] n = tt
sorted-numbered (x ∷ ts) n = (above-numbered ts n (n + 1) (omega arith), sorted-numbered ts (n + 1))

at_splits : (table : ℕ) (key : List ℕ) (k : ℕ) (p : List ℕ)
    → is_at (table_key_cmp (table, key)) (table_key k p)
    ≡ (is_at (nat_cmp table) k && is_at (slice_cmp nat_cmp key) p)
at_splits table key k p = by (nat_cmp table k)
  where
    by : (o : Ordering) → is_eq (ordering_then o (slice_cmp nat_cmp key p))
        ≡ (is_eq o && is_eq (slice_cmp nat_cmp key p))
    by Less = refl
    by Equal = refl
    by Greater = refl

table_splits : (table : ℕ) (k : ℕ) (p : List ℕ) → (table == k) ≡ (is_at (nat_cmp table) k && true)
table_splits table k p = by (table == k) ∙ ap (λ b. b && true) (unsigned_ties table k)
  where
    by : (b : Bool) → b ≡ (b && true)
    by true = refl
    by false = refl

all_keys : (es : List (List ℕ × KeyTotals)) → map (λ e. e.0) (filter (λ e. true) es) ≡ keys_of es
all_keys [] = refl
all_keys (e ∷ es) = ap (λ rest. e.0 ∷ rest) (all_keys es)

-- the numbers of columns
abbrev pub widths_of : List TableSums → List ℕ
widths_of ts = map (λ t. t.width) ts

pub length-widths : (ts : List TableSums) → length (widths_of ts) ≡ length ts
length-widths [] = refl
length-widths (t ∷ ts) = omega (arith, length-widths ts)

pub width-at : (ts : List TableSums) (i : ℕ) (table : TableSums) → slice_get ts i ≡ Some table
    → get_or (widths_of ts) i 0 ≡ table.width
width-at [] i table found = cc
width-at (x ∷ ts) zero table found = let first : x ≡ table = cc in
    ap (λ (t : TableSums). t.width) first
width-at (x ∷ ts) (suc i) table found = width-at ts i table found

widths-set : (ts : List TableSums) (i : ℕ) (new table : TableSums) → slice_get ts i ≡ Some table
    → new.width ≡ table.width → widths_of (set ts i new) ≡ widths_of ts
widths-set [] i new table found is = cc
widths-set (x ∷ ts) zero new table found is = let first : x ≡ table = cc in
    let same : new.width ≡ x.width = is ∙ ap (λ (t : TableSums). t.width) (sym first) in
    ap (λ w. w ∷ widths_of ts) same
widths-set (x ∷ ts) (suc i) new table found is =
    ap (λ rest. x.width ∷ rest) (widths-set ts i new table found is)

abbrev pub sum_map : List ℕ → List (TableKey × KeyTotals) → SumMap
sum_map widths entries = record { widths = widths; entries = entries }

-- all sums of these tables
abbrev pub sums_in : List TableSums → SumMap
sums_in ts = record { widths = widths_of ts; entries = placed ts }

module _ (ts : List TableSums) (i : ℕ) (table : TableSums) (found : slice_get ts i ≡ Some table)
    (key : List ℕ) where
  here : lookup (is_at (nat_cmp i)) (numbered 0 ts) ≡ Some table.entries
  here = lookup-numbered ts i i 0 table (omega arith) found

  once : PassesOnce (is_at (nat_cmp i)) (numbered 0 ts)
  once = PassesOnce-sorted nat_cmp_total i (is_at (nat_cmp i)) (λ j. refl) (numbered 0 ts)
      (sorted-numbered ts 0)

  pub lookup-placed : lookup (is_at (table_key_cmp (i, key))) (placed ts)
      ≡ lookup (is_at (slice_cmp nat_cmp key)) table.entries
  lookup-placed = lookup-spread table_key (is_at (nat_cmp i)) (is_at (slice_cmp nat_cmp key))
      (is_at (table_key_cmp (i, key))) (at_splits i key) (numbered 0 ts) once
      ∙ ap (λ o. option_and_then (λ rs. lookup (is_at (slice_cmp nat_cmp key)) rs) o) here

  pub sums-placed : sums_of (sums_in ts) i key ≡ sums_of_key table key
  sums-placed = rw (lookup-placed, width-at ts i table found) refl

  pub keys-placed : keys_in (sums_in ts) i ≡ keys_of table.entries
  keys-placed = map-filter-spread table_key (is_at (nat_cmp i)) (λ s. true)
      (λ (q : TableKey). i == q.0) (table_splits i) (λ (e : TableKey × KeyTotals). e.0.1)
      (λ (e : List ℕ × KeyTotals). e.0) (λ k p x passes. refl) (numbered 0 ts) table.entries once
      here ∙ all_keys table.entries

  module _ (new : TableSums) (width : new.width ≡ table.width) where
    pub put-placed : (k : KeyTotals) → new.entries ≡ insert_entry (slice_cmp nat_cmp) table.entries
        key k → sums_in (set ts i new) ≡ record {
          widths = widths_of ts;
          entries =
              insert_entry table_key_cmp (placed ts) (i, key) k;
        }
    put-placed k is =
        let entries : placed (set ts i new) ≡ insert_entry table_key_cmp (placed ts) (i, key) k =
        ap (λ es. spread table_key es) (numbered-set ts i i 0 new (omega arith))
        ∙ rw is (insert_entry-spread table_key nat_cmp (slice_cmp nat_cmp) table_key_cmp
        (λ k j p q. refl) nat_cmp_total exact_unsigned (numbered 0 ts) i key k table.entries
        (sorted-numbered ts 0) here) in
        rw (widths-set ts i new table found width, entries) refl

    take-placed : new.entries ≡ remove_entry (is_at (slice_cmp nat_cmp key)) table.entries
        → sums_in (set ts i new) ≡ record {
          widths = widths_of ts;
          entries =
              remove_entry (is_at (table_key_cmp (i, key))) (placed ts);
        }
    take-placed is =
        let entries : placed (set ts i new) ≡ remove_entry (is_at (table_key_cmp (i, key)))
        (placed ts) = ap (λ es. spread table_key es) (numbered-set ts i i 0 new (omega arith))
        ∙ rw is (remove_entry-spread table_key (is_at (nat_cmp i))
        (is_at (slice_cmp nat_cmp key)) (is_at (table_key_cmp (i, key))) (at_splits i key)
        (numbered 0 ts) table.entries once here) in
        rw (widths-set ts i new table found width, entries) refl

    pub put_or_take-placed : (o : Option KeyTotals)
        → new.entries ≡ put_or_take (slice_cmp nat_cmp) table.entries key o
        → sums_in (set ts i new) ≡ record {
          widths = widths_of ts;
          entries =
              put_or_take table_key_cmp (placed ts) (i, key) o;
        }
    put_or_take-placed None is = take-placed is
    put_or_take-placed (Some k) is = put-placed k is

-- a table of a shape's columns, without rows
abbrev pub new_table : Shape → TableSums
new_table shape = record { width = length shape.cols; entries = [] }

empty_placed : (shapes : List Shape) (n : ℕ)
    → spread table_key (numbered n (map new_table shapes)) ≡ []
empty_placed [] n = refl
empty_placed (shape ∷ shapes) n = empty_placed shapes (n + 1)

widths_new : (shapes : List Shape) → widths_of (map new_table shapes)
    ≡ map (λ shape. length shape.cols) shapes
widths_new [] = refl
widths_new (shape ∷ shapes) = ap (λ rest. length shape.cols ∷ rest) (widths_new shapes)

pub new_sums : (shapes : List Shape) → sums_in (map new_table shapes) ≡ record {
  widths =
      map (λ shape. length shape.cols) shapes;
  entries = [];
}
new_sums shapes = rw (empty_placed shapes 0, widths_new shapes) refl

pub added-placed : (ts : List TableSums) (i : ℕ) (table : TableSums) (found : slice_get ts i
    ≡ Some table) (key : List ℕ) (new : TableSums) (cells : List Held)
    (result : Result (Unit {0}) NoMemory)
    → OnOk result (new ≡ record table {
      entries = insert_entry (slice_cmp nat_cmp) table.entries key
          (with_row (sums_of_key table key) cells);
    })
    → OnOk result (sums_in (set ts i new) ≡ added (sums_in ts) i key cells)
added-placed ts i table found key new cells (Ok done) is =
    put-placed ts i table found key new (ap (λ (t : TableSums). t.width) is)
    (with_row (sums_of_key table key) cells) (ap (λ (t : TableSums). t.entries) is)
    ∙ ap (λ k. sum_map (widths_of ts) (insert_entry table_key_cmp (placed ts) (
      i,
      key,
    ) (with_row k cells))) (sym (sums-placed ts i table found key))
added-placed ts i table found key new cells (Err refused) is = is

pub replaced-placed : (ts : List TableSums) (i : ℕ) (table : TableSums) (found : slice_get ts i
    ≡ Some table) (key : List ℕ) (new : TableSums) (olds news : List Held)
    → new ≡ record table {
      entries = insert_entry (slice_cmp nat_cmp) table.entries key
          (with_row (with_row_less (sums_of_key table key) olds) news);
    }
    → sums_in (set ts i new) ≡ replaced (sums_in ts) i key olds news
replaced-placed ts i table found key new olds news is =
    put-placed ts i table found key new (ap (λ (t : TableSums). t.width) is)
    (with_row (with_row_less (sums_of_key table key) olds) news)
    (ap (λ (t : TableSums). t.entries) is)
    ∙ ap (λ k. sum_map (widths_of ts) (insert_entry table_key_cmp (placed ts) (
      i,
      key,
    ) (with_row (with_row_less k olds) news))) (sym (sums-placed ts i table found key))

pub dropped-placed : (ts : List TableSums) (i : ℕ) (table : TableSums) (found : slice_get ts i
    ≡ Some table) (key : List ℕ) (new : TableSums) (cells : List Held)
    → new ≡ record table {
      entries = put_or_take (slice_cmp nat_cmp) table.entries key
          (without_row (sums_of_key table key) cells);
    }
    → sums_in (set ts i new) ≡ dropped (sums_in ts) i key cells
dropped-placed ts i table found key new cells is =
    put_or_take-placed ts i table found key new (ap (λ (t : TableSums). t.width) is)
    (without_row (sums_of_key table key) cells) (ap (λ (t : TableSums). t.entries) is)
    ∙ ap (λ k. sum_map (widths_of ts) (put_or_take table_key_cmp (placed ts) (
      i,
      key,
    ) (without_row k cells))) (sym (sums-placed ts i table found key))
