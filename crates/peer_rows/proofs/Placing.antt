-- What becomes of all rows where those of one table change.
use Rattle.std.proofs.Common.{◌≡◌, ℕ, zero, suc, ◌+◌, ◌<◌, Bool, true, false, cond, ◌&&◌, List, []}
use Rattle.std.proofs.Common.{◌∷◌, length, refl, sym, ◌∙◌, ap, arith, get_or, set, replicate}
use Rattle.std.specs.Option.{option_and_then}
use Rattle.std.specs.Prelude.{Option, Some, not, filter, map, ◌==◌, slice_get, count_by}
use Rattle.std.specs.Prelude.{None, Result, Ok, Err, IfOk, OnOk, OnErr, MatchOption}
use Rattle.agg_types.specs.declared.no_memory.NoMemory.{NoMemory}
use Rattle.std.specs.declared.cmp.Ordering.{Ordering}
use Rattle.std.specs.declared.cmp.Ordering.TheVariants.{Less, Equal, Greater}
use Rattle.std.specs.Ordering.{is_eq, nat_cmp, ordering_then}
use Rattle.std.specs.Cmp.{IsTotalOrder, nat_cmp_total, nat_cmp_is, unsigned_ties, then_total}
use Rattle.std.specs.Cmp.{on_total}
use Rattle.std.specs.Cmp.Lexicographic.{nat_list_cmp_total}
use Rattle.std.specs.Map.{keys_of, lookup, remove_entry, set_value}
use Rattle.std.specs.BTreeMap.{insert_entry, is_at}
use Rattle.std.specs.List.{AllByRecursion}
use Rattle.std.specs.List.Sorted.{IsStrictlySortedBy}
use Rattle.std.proofs.lemmas.Map.Lookups.{exact_unsigned}
use Rattle.std.proofs.lemmas.List.{length-map}
use Rattle.std.proofs.lemmas.List.Sums.{length-filter}
use Rattle.std.proofs.lemmas.List.Kept.{IsStrictlySortedBy-filter}
use Rattle.agg_types.specs.RowKey.{row_key_cmp}
use Rattle.agg_types.specs.declared.row_key.RowKey.{RowKey}
use Rattle.peer_rows.specs.declared.row.Row.{Row}
use Rattle.peer_rows.specs.Spread.{spread}
use Rattle.peer_rows.specs.Table.{Spot, spot_cmp, same_key, rows_of_peer, TableRows}
use Rattle.peer_rows.specs.Rows.{place, place_of, in_table, of_table_key, of_table_peer, numbered}
use Rattle.peer_rows.specs.Rows.{placed, AreInOrder, AreTables, RowMap}
use Rattle.std.proofs.lemmas.Cmp.{tied_itself}
use Rattle.place_index.proofs.Sorted.{AllAbove, sorted-insert_entry, sorted-remove_entry}
use Rattle.peer_rows.proofs.Selecting.{PassesOnce}
use Rattle.peer_rows.proofs.Spreading.{PassesOnce-sorted, lookup-spread, remove_entry-spread}
use Rattle.peer_rows.proofs.Spreading.{filter_not-spread, map-filter-spread, insert_entry-spread}

-- a table in another's place
pub numbered-set : (ts : List TableRows) (i t n : ℕ) (new : TableRows) → t ≡ n + i
    → numbered n (set ts i new) ≡ set_value (is_at (nat_cmp t)) (numbered n ts) new.entries
numbered-set [] i t n new is = refl
numbered-set (x ∷ ts) zero t n new is = let same : t ≡ n = omega (arith, is) in
    rw (same, tied_itself nat_cmp_total n) refl
numbered-set (x ∷ ts) (suc i) t n new is =
    let above : nat_cmp t n ≡ Greater = sym (nat_cmp_is t n Greater (omega (arith, is))) in
    rw above (ap (λ rest. (n, x.entries) ∷ rest)
    (numbered-set ts i t (n + 1) new (omega (arith, is))))

-- a table is found by its position
pub lookup-numbered : (ts : List TableRows) (i t n : ℕ) (table : TableRows) → t ≡ n + i
    → slice_get ts i ≡ Some table → lookup (is_at (nat_cmp t)) (numbered n ts) ≡ Some table.entries
lookup-numbered [] i t n table is found = cc
lookup-numbered (x ∷ ts) zero t n table is found = let same : t ≡ n = omega (arith, is) in
    let first : x ≡ table = cc in rw (same, tied_itself nat_cmp_total n, first) refl
lookup-numbered (x ∷ ts) (suc i) t n table is found =
    let above : nat_cmp t n ≡ Greater = sym (nat_cmp_is t n Greater (omega (arith, is))) in
    rw above (lookup-numbered ts i t (n + 1) table (omega (arith, is)) found)

above-numbered : (ts : List TableRows) (k n : ℕ) → k < n → AllAbove nat_cmp k (numbered n ts)
above-numbered [] k n less = tt
above-numbered (x ∷ ts) k n less =
    (sym (nat_cmp_is k n Less less), above-numbered ts k (n + 1) (omega (arith, less)))

pub sorted-numbered : (ts : List TableRows) (n : ℕ)
    → IsStrictlySortedBy nat_cmp (keys_of (numbered n ts))
unfolding IsStrictlySortedBy
sorted-numbered [] n = tt
sorted-numbered (x ∷ ts) n = (above-numbered ts n (n + 1) (omega arith), sorted-numbered ts (n + 1))

-- tables without rows
pub placed-empty : (n peers i : ℕ)
    → spread place (numbered i (replicate n (record { peers = peers; entries = [] }))) ≡ []
placed-empty zero peers i = refl
placed-empty (suc n) peers i = placed-empty n peers (i + 1)

pub row_key_cmp_total : IsTotalOrder row_key_cmp
row_key_cmp_total = then_total (on_total (λ (p : RowKey). p.table) nat_cmp_total)
    (then_total (on_total (λ (p : RowKey). p.key) nat_list_cmp_total)
    (on_total (λ (p : RowKey). p.peer) nat_cmp_total))

-- the tests of places, by their tables and spots
at_splits : (table : ℕ) (s : Spot) (k : ℕ) (p : Spot)
    → is_at (row_key_cmp (place table s)) (place k p)
    ≡ (is_at (nat_cmp table) k && is_at (spot_cmp s) p)
at_splits table s k p = by (nat_cmp table k)
  where
    by : (o : Ordering) → is_eq (ordering_then o (spot_cmp s p)) ≡ (is_eq o && is_eq (spot_cmp s p))
    by Less = refl
    by Equal = refl
    by Greater = refl

key_splits : (table : ℕ) (key : List ℕ) (k : ℕ) (p : Spot) → of_table_key table key (place k p)
    ≡ (is_at (nat_cmp table) k && same_key key p.0)
key_splits table key k p = ap (λ b. b && same_key key p.0) (unsigned_ties table k)

peer_splits : (table peer : ℕ) (k : ℕ) (p : Spot) → of_table_peer table peer (place k p)
    ≡ (is_at (nat_cmp table) k && (peer == p.1))
peer_splits table peer k p = ap (λ b. b && (peer == p.1)) (unsigned_ties table k)

table_splits : (table : ℕ) (k : ℕ) (p : Spot) → in_table table (place k p)
    ≡ (is_at (nat_cmp table) k && true)
table_splits table k p = by (table == k) ∙ ap (λ b. b && true) (unsigned_ties table k)
  where
    by : (b : Bool) → b ≡ (b && true)
    by true = refl
    by false = refl

all_pass : (rows : List (Spot × Row)) → map (λ r. r) (filter (λ r. true) rows) ≡ rows
all_pass [] = refl
all_pass (r ∷ rows) = ap (λ rest. r ∷ rest) (all_pass rows)

none_pass : (rows : List (Spot × Row)) → filter (λ r. false) rows ≡ []
none_pass [] = refl
none_pass (r ∷ rows) = none_pass rows

keys_of-filter : (test : RowKey → Bool) (es : List (RowKey × Row))
    → keys_of (filter (λ e. test e.0) es) ≡ filter test (keys_of es)
keys_of-filter test [] = refl
keys_of-filter test (e ∷ es) = by (keys_of-filter test es) (test e.0)
  where
    by : keys_of (filter (λ f. test f.0) es) ≡ filter test (keys_of es) → (b : Bool)
        → keys_of (cond b (e ∷ filter (λ f. test f.0) es) (filter (λ f. test f.0) es))
        ≡ cond b (e.0 ∷ filter test (keys_of es)) (filter test (keys_of es))
    by more true = ap (λ rest. e.0 ∷ rest) more
    by more false = more

module _ (ts : List TableRows) (i : ℕ) (table : TableRows) (found : slice_get ts i
    ≡ Some table) where
  here : lookup (is_at (nat_cmp i)) (numbered 0 ts) ≡ Some table.entries
  here = lookup-numbered ts i i 0 table (omega arith) found

  once : PassesOnce (is_at (nat_cmp i)) (numbered 0 ts)
  once = PassesOnce-sorted nat_cmp_total i (is_at (nat_cmp i)) (λ j. refl) (numbered 0 ts)
      (sorted-numbered ts 0)

  pub lookup-placed : (key : List ℕ) (peer : ℕ) → lookup (is_at (row_key_cmp (place_of i key peer)))
      (placed ts) ≡ lookup (is_at (spot_cmp (key, peer))) table.entries
  lookup-placed key peer = lookup-spread place (is_at (nat_cmp i)) (is_at (spot_cmp (key, peer)))
      (is_at (row_key_cmp (place_of i key peer))) (at_splits i (key, peer)) (numbered 0 ts) once
      ∙ ap (λ o. option_and_then (λ rs. lookup (is_at (spot_cmp (key, peer))) rs) o) here

  pub placed-put : (key : List ℕ) (peer : ℕ) (row : Row) (new : TableRows)
      → new.entries ≡ insert_entry spot_cmp table.entries (key, peer) row
      → placed (set ts i new) ≡ insert_entry row_key_cmp (placed ts) (place_of i key peer) row
  placed-put key peer row new is =
      ap (λ es. spread place es) (numbered-set ts i i 0 new (omega arith))
      ∙ rw is (insert_entry-spread place nat_cmp spot_cmp row_key_cmp (λ k j p q. refl)
      nat_cmp_total
      exact_unsigned (numbered 0 ts) i (key, peer) row table.entries (sorted-numbered ts 0) here)

  pub placed-take : (key : List ℕ) (peer : ℕ) (new : TableRows)
      → new.entries ≡ remove_entry (is_at (spot_cmp (key, peer))) table.entries
      → placed (set ts i new) ≡ remove_entry (is_at (row_key_cmp (place_of i key peer))) (placed ts)
  placed-take key peer new is = ap (λ es. spread place es) (numbered-set ts i i 0 new (omega arith))
      ∙ rw is (remove_entry-spread place (is_at (nat_cmp i)) (is_at (spot_cmp (key, peer)))
      (is_at (row_key_cmp (place_of i key peer))) (at_splits i (key, peer)) (numbered 0 ts)
      table.entries once here)

  pub placed-clear : (key : List ℕ) (new : TableRows)
      → new.entries ≡ filter (λ e. not (same_key key e.0.0)) table.entries
      → placed (set ts i new) ≡ filter (λ e. not (of_table_key i key e.0)) (placed ts)
  placed-clear key new is = ap (λ es. spread place es) (numbered-set ts i i 0 new (omega arith))
      ∙ rw is (filter_not-spread place (is_at (nat_cmp i)) (λ s. same_key key s.0)
      (of_table_key i key) (key_splits i key) (numbered 0 ts) table.entries once here)

  pub placed-emptied : (new : TableRows) → new.entries ≡ []
      → placed (set ts i new) ≡ filter (λ e. not (in_table i e.0)) (placed ts)
  placed-emptied new is = ap (λ es. spread place es) (numbered-set ts i i 0 new (omega arith))
      ∙ rw (is ∙ sym (none_pass table.entries)) (filter_not-spread place (is_at (nat_cmp i))
      (λ s. true) (in_table i) (table_splits i) (numbered 0 ts) table.entries once here)

  pub by_key-placed : map (λ e. ((e.0.key, e.0.peer), e.1))
      (filter (λ e. in_table i e.0) (placed ts)) ≡ table.entries
  by_key-placed = map-filter-spread place (is_at (nat_cmp i)) (λ s. true) (in_table i)
      (table_splits i) (λ (e : RowKey × Row). ((e.0.key, e.0.peer), e.1)) (λ (e : Spot × Row). e)
      (λ k p x passes. refl) (numbered 0 ts) table.entries once here ∙ all_pass table.entries

  map_twice : (es : List (RowKey × Row))
      → map (λ (s : Spot × Row). s.0.0)
      (map {B = Spot × Row} (λ (e : RowKey × Row). ((e.0.key, e.0.peer), e.1)) es)
      ≡ map (λ e. e.0.key) es
  map_twice [] = refl
  map_twice (e ∷ es) = ap (λ ks. e.0.key ∷ ks) (map_twice es)

  pub used-placed : map (λ e. e.0.key) (filter (λ e. in_table i e.0) (placed ts))
      ≡ map (λ (s : Spot × Row). s.0.0) table.entries
  used-placed = sym (map_twice (filter (λ e. in_table i e.0) (placed ts)))
      ∙ ap (λ (es : List (Spot × Row)). map (λ (s : Spot × Row). s.0.0) es) by_key-placed

  pub of_key-placed : (key : List ℕ)
      → map {B = ℕ × Row} (λ e. (e.0.peer, e.1)) (filter (λ e. of_table_key i key e.0) (placed ts))
      ≡ map {B = ℕ × Row} (λ e. (e.0.1, e.1)) (filter (λ e. same_key key e.0.0) table.entries)
  of_key-placed key = map-filter-spread place (is_at (nat_cmp i)) (λ s. same_key key s.0)
      (of_table_key i key) (key_splits i key) (λ (e : RowKey × Row). (e.0.peer, e.1))
      (λ (e : Spot × Row). (e.0.1, e.1)) (λ k p x passes. refl) (numbered 0 ts)
      table.entries once here

  pub count-key-placed : (key : List ℕ) → count_by (λ e. of_table_key i key e.0) (placed ts)
      ≡ length (filter (λ e. same_key key e.0.0) table.entries)
  count-key-placed key = sym (length-filter (λ (e : RowKey × Row). of_table_key i key e.0)
      (placed ts))
      ∙ sym (length-map {B = ℕ × Row} (filter (λ (e : RowKey × Row). of_table_key i key e.0)
      (placed ts)) (λ e. (e.0.peer, e.1)))
      ∙ ap length (of_key-placed key)
      ∙ length-map {B = ℕ × Row} (filter (λ (e : Spot × Row). same_key key e.0.0) table.entries)
      (λ e. (e.0.1, e.1))

  pub count-peer-placed : (peer : ℕ) → count_by (λ e. of_table_peer i peer e.0) (placed ts)
      ≡ rows_of_peer peer table.entries
  count-peer-placed peer = sym (length-filter (λ (e : RowKey × Row). of_table_peer i peer e.0)
      (placed ts))
      ∙ sym (length-map {B = ℕ × Row} (filter (λ (e : RowKey × Row). of_table_peer i peer e.0)
      (placed ts)) (λ e. (e.0.peer, e.1)))
      ∙ ap length (map-filter-spread place (is_at (nat_cmp i)) (λ s. peer == s.1)
      (of_table_peer i peer) (peer_splits i peer) (λ (e : RowKey × Row). (e.0.peer, e.1))
      (λ (e : Spot × Row). (e.0.1, e.1)) (λ k p x passes. refl) (numbered 0 ts)
      table.entries once here)
      ∙ length-map {B = ℕ × Row} (filter (λ (e : Spot × Row). peer == e.0.1) table.entries)
      (λ e. (e.0.1, e.1))

pub set_itself : (ts : List TableRows) (i : ℕ) (table : TableRows) → slice_get ts i ≡ Some table
    → set ts i table ≡ ts
set_itself [] i table found = refl
set_itself (x ∷ ts) zero table found = let first : x ≡ table = cc in ap (λ t. t ∷ ts) (sym first)
set_itself (x ∷ ts) (suc i) table found = ap (λ rest. x ∷ rest) (set_itself ts i table found)

pub found_at : (ts : List TableRows) (i : ℕ) (table : TableRows) → i < length ts
    → table ≡ get_or ts i table → slice_get ts i ≡ Some table
found_at [] i table h e = absurd (omega (arith, h))
found_at (x ∷ ts) zero table h e = rw (← e) refl
found_at (x ∷ ts) (suc i) table h e = found_at ts i table (omega (arith, h)) e

pub length-set : (ts : List TableRows) (i : ℕ) (new : TableRows) → length (set ts i new) ≡ length ts
length-set [] i new = refl
length-set (x ∷ ts) zero new = refl
length-set (x ∷ ts) (suc i) new = omega (arith, length-set ts i new)

-- all rows by the numbers of peers and tables and their entries
abbrev pub row_map : ℕ → ℕ → List (RowKey × Row) → RowMap
row_map peers tables entries = record { peers = peers; tables = tables; entries = entries }

pub same_map : (peers n m : ℕ) (es fs : List (RowKey × Row)) → n ≡ m → es ≡ fs
    → row_map peers n es ≡ row_map peers m fs
same_map peers n m es fs e f = rw (e, f) refl

-- the tables agree on the number of peers
pub agree-at : (peers : ℕ) (ts : List TableRows) (i : ℕ) (table : TableRows)
    → AllByRecursion (λ t. t.peers ≡ peers) ts → slice_get ts i ≡ Some table → table.peers ≡ peers
agree-at peers [] i table f found = cc
agree-at peers (x ∷ ts) zero table f found = let first : x ≡ table = cc in
    ap (λ (t : TableRows). t.peers) (sym first) ∙ f.0
agree-at peers (x ∷ ts) (suc i) table f found = agree-at peers ts i table f.1 found

agree-set : (peers : ℕ) (ts : List TableRows) (i : ℕ) (new : TableRows)
    → AllByRecursion (λ t. t.peers ≡ peers) ts → new.peers ≡ peers
    → AllByRecursion (λ t. t.peers ≡ peers) (set ts i new)
agree-set peers [] i new f is = tt
agree-set peers (x ∷ ts) zero new f is = (is, f.1)
agree-set peers (x ∷ ts) (suc i) new f is = (f.0, agree-set peers ts i new f.1 is)

agree-replicate : (n peers : ℕ) → AllByRecursion (λ (t : TableRows). t.peers ≡ peers)
    (replicate n (record { peers = peers; entries = [] }))
agree-replicate zero peers = tt
agree-replicate (suc n) peers = (refl, agree-replicate n peers)

no_entries : AreInOrder []
unfolding IsStrictlySortedBy
no_entries = tt

pub new_tables : (n peers : ℕ)
    → AreTables peers (replicate n (record { peers = peers; entries = [] }))
new_tables n peers = record {
  agree = agree-replicate n peers;
  ordered =
      rw (placed-empty n peers 0) no_entries;
}

module _ (peers : ℕ) (ts : List TableRows) (i : ℕ) (new table : TableRows)
    (are : AreTables peers ts) (found : slice_get ts i ≡ Some table)
    (same : new.peers ≡ table.peers) where
  agreed : AllByRecursion (λ t. t.peers ≡ peers) (set ts i new)
  agreed = agree-set peers ts i new are.agree (same ∙ agree-at peers ts i table are.agree found)

  pub tables-put : (key : List ℕ) (peer : ℕ) (row : Row)
      → new.entries ≡ insert_entry spot_cmp table.entries (key, peer) row
      → AreTables peers (set ts i new)
  tables-put key peer row is = record {
    agree = agreed;
    ordered =
        rw (placed-put ts i table found key peer row new is)
        (sorted-insert_entry row_key_cmp row_key_cmp_total (placed ts) (place_of i key peer) row
        are.ordered);
  }

  pub tables-take : (key : List ℕ) (peer : ℕ)
      → new.entries ≡ remove_entry (is_at (spot_cmp (key, peer))) table.entries
      → AreTables peers (set ts i new)
  tables-take key peer is = record {
    agree = agreed;
    ordered =
        rw (placed-take ts i table found key peer new is)
        (sorted-remove_entry row_key_cmp (is_at (row_key_cmp (place_of i key peer))) (placed ts)
        are.ordered);
  }

  pub tables-clear : (key : List ℕ) → new.entries ≡ filter (λ e. not (same_key key e.0.0))
      table.entries → AreTables peers (set ts i new)
  tables-clear key is = record {
    agree = agreed;
    ordered =
        rw (
          placed-clear ts i table found key new is,
          keys_of-filter (λ p. not (of_table_key i key p))
              (placed ts),
        ) (IsStrictlySortedBy-filter row_key_cmp (λ p. not (of_table_key i key p))
        (keys_of (placed ts)) are.ordered);
  }

  pub tables-emptied : new.entries ≡ [] → AreTables peers (set ts i new)
  tables-emptied is = record {
    agree = agreed;
    ordered =
        rw (
          placed-emptied ts i table found new is,
          keys_of-filter (λ p. not (in_table i p))
              (placed ts),
        ) (IsStrictlySortedBy-filter row_key_cmp (λ p. not (in_table i p))
        (keys_of (placed ts)) are.ordered);
  }

  -- a table in its own place
  pub tables-same : new ≡ table → AreTables peers (set ts i new)
  tables-same is = rw (is, set_itself ts i table found) are

-- nothing is a list of which nothing comes
pub none-mapped : {A B : Type 0} (f : A → B) (xs : List A) → map f xs ≡ [] → xs ≡ []
none-mapped f [] is = refl
none-mapped f (x ∷ xs) is = cc

-- a table without rows
abbrev pub no_rows : ℕ → TableRows
no_rows peers = record { peers = peers; entries = [] }

-- a table with a row more in its place, or as it was where that was refused
module _ {A : Type 0} (ts : List TableRows) (i : ℕ) (new table : TableRows) (found : slice_get ts i
    ≡ Some table) (key : List ℕ) (peer : ℕ) (row : Row) where
  put_result : (peers : ℕ) → AreTables peers ts → (r : Result A NoMemory)
      → OnOk r (new ≡ record table {
        entries = insert_entry spot_cmp table.entries (key, peer) row;
      }) → OnErr r (new ≡ table) → AreTables peers (set ts i new)
  put_result peers are (Ok old) is e =
      tables-put peers ts i new table are found (ap (λ (t : TableRows). t.peers) is) key peer row
      (ap (λ (t : TableRows). t.entries) is)
  put_result peers are (Err refused) o is =
      tables-same peers ts i new table are found (ap (λ (t : TableRows). t.peers) is) is

  map_ok : (peers : ℕ) → (r : Result A NoMemory)
      → OnOk r (new ≡ record table {
        entries = insert_entry spot_cmp table.entries (key, peer) row;
      }) → OnOk r (row_map peers (length (set ts i new)) (placed (set ts i new))
      ≡ row_map peers (length ts) (insert_entry row_key_cmp (placed ts) (place_of i key peer) row))
  map_ok peers (Ok old) is = same_map peers _ _ _ _ (length-set ts i new)
      (placed-put ts i table found key peer row new (ap (λ (t : TableRows). t.entries) is))
  map_ok peers (Err refused) is = is

-- the same with a row in another's place where one was found
module _ (ts : List TableRows) (i : ℕ) (new table : TableRows) (found : slice_get ts i
    ≡ Some table) (key : List ℕ) (peer : ℕ) (row : Row) where
  pub put_found : (peers : ℕ) → AreTables peers ts → (b : Bool) → new ≡ record table {
    entries = cond b (insert_entry spot_cmp table.entries (key, peer) row) table.entries;
  } → AreTables peers (set ts i new)
  put_found peers are true is =
      tables-put peers ts i new table are found (ap (λ (t : TableRows). t.peers) is) key peer row
      (ap (λ (t : TableRows). t.entries) is)
  put_found peers are false is =
      tables-same peers ts i new table are found (ap (λ (t : TableRows). t.peers) is) is

  map_same : (peers : ℕ) → new ≡ table → row_map peers (length (set ts i new))
      (placed (set ts i new)) ≡ row_map peers (length ts) (placed ts)
  map_same peers is = rw (is, set_itself ts i table found) refl

  map_put : (peers : ℕ) → new ≡ record table {
    entries = insert_entry spot_cmp table.entries (key, peer) row;
  } → row_map peers (length (set ts i new)) (placed (set ts i new))
      ≡ row_map peers (length ts) (insert_entry row_key_cmp (placed ts) (place_of i key peer) row)
  map_put peers is = same_map peers _ _ _ _ (length-set ts i new)
      (placed-put ts i table found key peer row new (ap (λ (t : TableRows). t.entries) is))

  pub map_found : (peers : ℕ) (b : Bool) → new ≡ record table {
    entries = cond b (insert_entry spot_cmp table.entries (key, peer) row) table.entries;
  } → row_map peers (length (set ts i new)) (placed (set ts i new)) ≡ cond b
      (row_map peers (length ts) (insert_entry row_key_cmp (placed ts) (place_of i key peer) row))
      (row_map peers (length ts) (placed ts))
  map_found peers true is = map_put peers is
  map_found peers false is = map_same peers is

  -- and where a key's first row is put, or nothing
  pub first_result : {A : Type 0} (after : Row) (peers : ℕ) → AreTables peers ts
      → (r : Result (Option A) NoMemory) → IfOk r (λ held. MatchOption held (new ≡ record table {
        entries = insert_entry spot_cmp table.entries (key, peer) row;
      }) (λ _. (new ≡ table) × (after ≡ row))) → OnErr r (new ≡ table)
      → AreTables peers (set ts i new)
  first_result after peers are (Ok None) is e = put_found peers are true is
  first_result after peers are (Ok (Some held)) is e = put_found peers are false is.0
  first_result after peers are (Err refused) o is = put_found peers are false is

  pub first_map : {A : Type 0} (after : Row) (peers : ℕ) (r : Result (Option A) NoMemory)
      → IfOk r (λ held. MatchOption held (new ≡ record table {
        entries = insert_entry spot_cmp table.entries (key, peer) row;
      }) (λ _. (new ≡ table) × (after ≡ row)))
      → IfOk r (λ held. MatchOption held (row_map peers (length (set ts i new))
      (placed (set ts i new))
      ≡ row_map peers (length ts) (insert_entry row_key_cmp (placed ts) (place_of i key peer) row))
      (λ _. (row_map peers (length (set ts i new)) (placed (set ts i new))
      ≡ row_map peers (length ts) (placed ts)) × (after ≡ row)))
  first_map after peers (Ok None) is = map_put peers is
  first_map after peers (Ok (Some held)) is = (map_same peers is.0, is.1)
  first_map after peers (Err refused) is = is

  -- and where it is put by what an answer says
  pub told_result : {A : Type 0} (is_new : A → Bool) (peers : ℕ) → AreTables peers ts
      → (r : Result A NoMemory) → IfOk r (λ a. new ≡ record table {
        entries = cond (is_new a) (insert_entry spot_cmp table.entries (key, peer) row)
            table.entries;
      }) → OnErr r (new ≡ table) → AreTables peers (set ts i new)
  told_result is_new peers are (Ok a) is e = put_found peers are (is_new a) is
  told_result is_new peers are (Err refused) o is = put_found peers are false is

  pub told_map : {A : Type 0} (is_new : A → Bool) (peers : ℕ) (r : Result A NoMemory)
      → IfOk r (λ a. new ≡ record table {
        entries = cond (is_new a) (insert_entry spot_cmp table.entries (key, peer) row)
            table.entries;
      }) → IfOk r (λ a. row_map peers (length (set ts i new)) (placed (set ts i new))
      ≡ cond (is_new a)
      (row_map peers (length ts) (insert_entry row_key_cmp (placed ts) (place_of i key peer) row))
      (row_map peers (length ts) (placed ts)))
  told_map is_new peers (Ok a) is = map_found peers (is_new a) is
  told_map is_new peers (Err refused) is = is

pub tables-put_result : {A : Type 0} (peers : ℕ) (ts : List TableRows) → AreTables peers ts
    → (i : ℕ) (new table : TableRows) (found : slice_get ts i ≡ Some table) (key : List ℕ)
    (peer : ℕ) (row : Row) (result : Result A NoMemory)
    (ok : OnOk result (new ≡ record table {
      entries =
          insert_entry spot_cmp table.entries (key, peer) row;
    })) (err : OnErr result (new ≡ table))
    → AreTables peers (set ts i new)
tables-put_result peers ts are i new table found key peer row result ok err =
    put_result ts i new table found key peer row peers are result ok err

pub map-put_ok : {A : Type 0} (peers : ℕ) (ts : List TableRows) (i : ℕ) (new table : TableRows)
    (found : slice_get ts i ≡ Some table) (key : List ℕ) (peer : ℕ) (row : Row)
    (result : Result A NoMemory) (ok : OnOk result
    (new ≡ record table { entries = insert_entry spot_cmp table.entries (key, peer) row }))
    (err : OnErr result (new ≡ table))
    → OnOk result (row_map peers (length (set ts i new)) (placed (set ts i new))
    ≡ row_map peers (length ts) (insert_entry row_key_cmp (placed ts) (place_of i key peer) row))
map-put_ok peers ts i new table found key peer row result ok err =
    map_ok ts i new table found key peer row peers result ok
