-- Sums after a history of rows added and dropped.
use Rattle.std.proofs.Common.{◌≡◌, ◌≢◌, ℕ, zero, suc, ◌+◌, ◌-◌, ◌*◌, ◌^◌, ◌<◌, ◌≤◌, Bool, true}
use Rattle.std.proofs.Common.{false, cond, List, [], ◌∷◌, ◌++◌, length, refl, sym, ◌∙◌, ap, arith}
use Rattle.std.proofs.Common.{get_or, replicate, ⊎_elim, ◌⊎◌, inl, inr, subst}
use Rattle.std.specs.Prelude.{Option, Some, None, slice_get, slice_index, sum_by, count_by, remove}
use Rattle.std.specs.Prelude.{unwrap_or}
use Rattle.std.specs.declared.cmp.Ordering.{Ordering}
use Rattle.std.specs.declared.cmp.Ordering.TheVariants.{Less, Equal, Greater}
use Rattle.std.specs.Ordering.{match_ordering, is_eq, nat_cmp, ordering_reverse}
use Rattle.std.specs.Cmp.{Equal-is, IsTotalOrder, nat_cmp_total, then_total, on_total}
use Rattle.std.specs.Cmp.{eq_by_cmp_equiv}
use Rattle.std.specs.Cmp.Lexicographic.{slice_cmp, nat_list_cmp_total}
use Rattle.std.specs.Map.{keys_of, lookup}
use Rattle.std.specs.BTreeMap.{insert_entry, is_at}
use Rattle.std.specs.List.{AllByRecursion}
use Rattle.std.specs.List.Sorted.{IsStrictlySortedBy}
use Rattle.std.proofs.lemmas.List.{length-replicate, get_or_past, get_or-replicate}
use Rattle.std.proofs.lemmas.List.Sums.{sum_by-append, sum_by-remove}
use Rattle.std.proofs.lemmas.Map.{lookup-remove_entry}
use Rattle.std.proofs.lemmas.Map.Keys.{IsDistinct-from_sorted}
use Rattle.std.proofs.lemmas.Map.Lookups.{exact_bytes, exact_unsigned, exact_pairs}
use Rattle.std.proofs.lemmas.Bool.{cases_lt, cases_eq}
use Rattle.peer_rows.specs.declared.row.Held.{Held}
use Rattle.std.proofs.lemmas.Cmp.{tied_itself}
use Rattle.place_index.proofs.Sorted.{sorted-insert_entry, sorted-remove_entry}
use Rattle.peer_rows.specs.Counted.{counted_at}
use Rattle.fleet_sums.specs.Totals.{KeyTotals, no_sums, with_row, with_row_less, without_row}
use Rattle.fleet_sums.specs.Totals.{totals_by}
use Rattle.fleet_sums.specs.Sums.{SumMap, TableKey, table_key_cmp, put_or_take, sums_of, CanDrop}
use Rattle.fleet_sums.specs.Sums.{added, dropped, replaced}
use Rattle.fleet_sums.specs.History.{SummedRow, Change, Adds, Drops, Replaces, with_other_cells}
use Rattle.fleet_sums.specs.History.{standing, IsFair, dropped_row, replaced_row, sums_after}
use Rattle.fleet_sums.specs.History.{is_row_of, sum_over, empty_sums, TotalsAreSums, IsWhole}
use Rattle.fleet_sums.specs.History.{StandingCanDrop}
use Rattle.fleet_sums.proofs.Columns.{get_or-totals_less, get_or-totals_more, length-totals_by}
use Rattle.fleet_sums.proofs.Keeping.{last_row, not_last_row}

pub table_key_cmp_total : IsTotalOrder table_key_cmp
table_key_cmp_total = then_total (on_total (λ (q : TableKey). q.0) nat_cmp_total)
    (on_total (λ (q : TableKey). q.1) nat_list_cmp_total)

-- what is found after an insertion
pub lookup-insert_entry : {K X : Type 0} {C : K → K → Ordering} → IsTotalOrder C
    → (es : List (K × X)) (k q : K) (v : X) → lookup (is_at (C q)) (insert_entry C es k v)
    ≡ cond (is_eq (C q k)) (Some v) (lookup (is_at (C q)) es)
lookup-insert_entry o [] k q v = refl
lookup-insert_entry {K} {X} {C} o (e ∷ es) k q v =
    by (lookup-insert_entry o es k q v) (C k e.0) refl
  where
    either : (b : Bool) (rest : Option X)
        → cond b (Some v) rest ≡ cond b (Some v) (cond b (Some e.1) rest)
    either true rest = refl
    either false rest = refl

    above : (r : Ordering) → C q k ≡ r → C k e.0 ≡ Greater → (rest : Option X)
        → cond (is_eq (C q e.0)) (Some e.1) (cond (is_eq r) (Some v) rest) ≡ cond (is_eq r) (Some v)
        (cond (is_eq (C q e.0)) (Some e.1) rest)
    above Less is more rest = refl
    above Equal is more rest = let far : C q e.0 ≡ Greater = o.congr q k e.0 is
        ∙ more in rw far refl
    above Greater is more rest = refl

    by : lookup (is_at (C q)) (insert_entry C es k v) ≡ cond (is_eq (C q k)) (Some v)
        (lookup (is_at (C q)) es) → (r : Ordering) → C k e.0 ≡ r
        → lookup (is_at (C q)) (match_ordering r ((k, v) ∷ e ∷ es) ((e.0, v) ∷ es)
        (e ∷ insert_entry C es k v)) ≡ cond (is_eq (C q k)) (Some v)
        (cond (is_eq (C q e.0)) (Some e.1) (lookup (is_at (C q)) es))
    by more Less is = refl
    by more Equal is = let same : C q e.0 ≡ C q k = o.antisymm q e.0
        ∙ ap ordering_reverse (sym (o.congr k e.0 q is)) ∙ sym (o.antisymm q k) in
        rw same (either (is_eq (C q k)) (lookup (is_at (C q)) es))
    by more Greater is = rw more (above (C q k) refl is (lookup (is_at (C q)) es))

-- either order of two keys tells whether they are the same
turned_eq : {K : Type 0} {C : K → K → Ordering} → IsTotalOrder C → (x y : K)
    → is_eq (C x y) ≡ is_eq (C y x)
turned_eq {K} {C} o x y = ap is_eq (o.antisymm x y) ∙ by (C y x)
  where
    by : (r : Ordering) → is_eq (ordering_reverse r) ≡ is_eq r
    by Less = refl
    by Equal = refl
    by Greater = refl

-- what is found after a value was put or taken out
pub lookup-put_or_take : {K X : Type 0} {C : K → K → Ordering} → IsTotalOrder C
    → (es : List (K × X)) (k q : K) (v : Option X) → IsStrictlySortedBy C (keys_of es)
    → lookup (is_at (C q)) (put_or_take C es k v) ≡ cond (is_eq (C q k)) v (lookup (is_at (C q)) es)
lookup-put_or_take o es k q (Some v) s = lookup-insert_entry o es k q v
lookup-put_or_take {K} {X} {C} o es k q None s =
    lookup-remove_entry (eq_by_cmp_equiv o) (is_at (C k))
    (λ x y e. ap is_eq (o.congr k x y ((Equal-is (C k x)).0 e))) q es
    (IsDistinct-from_sorted C (keys_of es) s)
    ∙ ap (λ b. cond b None (lookup (is_at (C q)) es)) (turned_eq o k q)

pub sorted-put_or_take : {K X : Type 0} {C : K → K → Ordering} → IsTotalOrder C
    → (es : List (K × X)) (k : K) (v : Option X) → IsStrictlySortedBy C (keys_of es)
    → IsStrictlySortedBy C (keys_of (put_or_take C es k v))
sorted-put_or_take {K} {X} {C} o es k None s = sorted-remove_entry C (is_at (C k)) es s
sorted-put_or_take {K} {X} {C} o es k (Some v) s = sorted-insert_entry C o es k v s

-- a row of a table and key has just these
same_place : (table : ℕ) (key : List ℕ) (r : SummedRow) → is_row_of table key r ≡ true
    → (table ≡ r.table) × (key ≡ r.key)
same_place table key r e =
    let pairs : (table, key) ≡ (r.table, r.key) =
    exact_pairs nat_cmp (slice_cmp nat_cmp) exact_unsigned exact_bytes (table, key) (
      r.table,
      r.key,
    ) ((Equal-is (table_key_cmp (table, key) (r.table, r.key))).0 e) in
    (ap (λ (q : TableKey). q.0) pairs, ap (λ (q : TableKey). q.1) pairs)

-- the sums of a key after a row was added: its own, with the row where it is one of the key
sums_of-added : (s : SumMap) (r : SummedRow) (table : ℕ) (key : List ℕ)
    → sums_of (added s r.table r.key r.cells) table key ≡ cond (is_row_of table key r)
    (with_row (sums_of s table key) r.cells) (sums_of s table key)
sums_of-added s r table key =
    ap (λ o. unwrap_or o (no_sums (slice_index s.widths table)))
    (lookup-insert_entry table_key_cmp_total s.entries (r.table, r.key) (
      table,
      key,
    ) (with_row (sums_of s r.table r.key) r.cells))
    ∙ by (is_row_of table key r) refl
  where
    by : (b : Bool) → is_row_of table key r ≡ b
        → unwrap_or (cond b (Some (with_row (sums_of s r.table r.key) r.cells))
        (lookup (is_at (table_key_cmp (table, key))) s.entries))
        (no_sums (slice_index s.widths table)) ≡ cond b (with_row (sums_of s table key) r.cells)
        (sums_of s table key)
    by true is = let place = same_place table key r is in rw (place.0, place.1) refl
    by false is = refl

-- the same after a row was dropped
sums_of-dropped : (s : SumMap) (r : SummedRow) (table : ℕ) (key : List ℕ)
    → IsStrictlySortedBy table_key_cmp (keys_of s.entries)
    → sums_of (dropped s r.table r.key r.cells) table key ≡ cond (is_row_of table key r)
    (unwrap_or (without_row (sums_of s table key) r.cells) (no_sums (slice_index s.widths table)))
    (sums_of s table key)
sums_of-dropped s r table key sorted =
    ap (λ o. unwrap_or o (no_sums (slice_index s.widths table)))
    (lookup-put_or_take table_key_cmp_total s.entries (r.table, r.key) (
      table,
      key,
    ) (without_row (sums_of s r.table r.key) r.cells) sorted)
    ∙ by (is_row_of table key r) refl
  where
    by : (b : Bool) → is_row_of table key r ≡ b
        → unwrap_or (cond b (without_row (sums_of s r.table r.key) r.cells)
        (lookup (is_at (table_key_cmp (table, key))) s.entries))
        (no_sums (slice_index s.widths table))
        ≡ cond b (unwrap_or (without_row (sums_of s table key) r.cells)
        (no_sums (slice_index s.widths table))) (sums_of s table key)
    by true is = let place = same_place table key r is in rw (place.0, place.1) refl
    by false is = refl

-- the same after a row gave way to another
sums_of-replaced : (s : SumMap) (r : SummedRow) (cells : List Held) (table : ℕ) (key : List ℕ)
    → sums_of (replaced s r.table r.key r.cells cells) table key ≡ cond (is_row_of table key r)
    (with_row (with_row_less (sums_of s table key) r.cells) cells) (sums_of s table key)
sums_of-replaced s r cells table key =
    ap (λ o. unwrap_or o (no_sums (slice_index s.widths table)))
    (lookup-insert_entry table_key_cmp_total s.entries (r.table, r.key) (
      table,
      key,
    ) (with_row (with_row_less (sums_of s r.table r.key) r.cells) cells))
    ∙ by (is_row_of table key r) refl
  where
    by : (b : Bool) → is_row_of table key r ≡ b
        → unwrap_or (cond b (Some (with_row (with_row_less (sums_of s r.table r.key) r.cells)
        cells)) (lookup (is_at (table_key_cmp (table, key))) s.entries))
        (no_sums (slice_index s.widths table))
        ≡ cond b (with_row (with_row_less (sums_of s table key) r.cells) cells)
        (sums_of s table key)
    by true is = let place = same_place table key r is in rw (place.0, place.1) refl
    by false is = refl

-- ---- sums over lists
sum_by-push : {X : Type 0} (f : X → ℕ) (xs : List X) (x : X)
    → sum_by f (xs ++ x ∷ []) ≡ sum_by f xs + f x
sum_by-push f xs x = sum_by-append f xs (x ∷ []) ∙ omega arith

sum_by-cons : {X : Type 0} (f : X → ℕ) (x : X) (xs : List X) → sum_by f (x ∷ xs) ≡ f x + sum_by f xs
sum_by-cons f x xs = sum_by-append f (x ∷ []) xs ∙ omega arith

-- where no row counts the sum over those that count is 0
nothing_counted : {X : Type 0} (test : X → Bool) (f : X → ℕ) (xs : List X) → count_by test xs ≡ 0
    → sum_by (λ x. cond (test x) (f x) 0) xs ≡ 0
nothing_counted test f [] e = refl
nothing_counted {X} test f (x ∷ xs) e =
    by (nothing_counted test f xs) (test x) (sum_by-cons (λ y. cond (test y) 1 0) x xs)
    (sum_by-cons (λ y. cond (test y) (f y) 0) x xs)
  where
    by : (count_by test xs ≡ 0 → sum_by (λ y. cond (test y) (f y) 0) xs ≡ 0) → (b : Bool)
        → count_by test (x ∷ xs) ≡ cond b 1 0 + count_by test xs
        → sum_by (λ y. cond (test y) (f y) 0) (x ∷ xs) ≡ cond b (f x) 0 + sum_by
        (λ y. cond (test y) (f y) 0) xs → sum_by (λ y. cond (test y) (f y) 0) (x ∷ xs) ≡ 0
    by more true counts sums = absurd (omega (arith, counts, e))
    by more false counts sums = let rest = more (omega (arith, counts, e)) in
        omega (arith, sums, rest)

get_or-found : (rows : List SummedRow) (i : ℕ) (r : SummedRow) → slice_get rows i ≡ Some r
    → (i < length rows) × (get_or rows i r ≡ r)
get_or-found [] i r e = cc
get_or-found (x ∷ rows) zero r e = let first : x ≡ r = cc in (omega arith, first)
get_or-found (x ∷ rows) (suc i) r e = let more = get_or-found rows i r e in
    (omega (arith, more.0), more.1)

found_row : (rows : List SummedRow) (i : ℕ) → i < length rows → (r : SummedRow)
    × (slice_get rows i ≡ Some r)
found_row [] i h = absurd (omega (arith, h))
found_row (x ∷ rows) zero h = (x, refl)
found_row (x ∷ rows) (suc i) h = found_row rows i (omega (arith, h))

-- ---- sums that are those of rows
record Agrees (widths : List ℕ) (s : SumMap) (rows : List SummedRow) : Type 0 where
  are : s.widths ≡ widths
  ordered : IsStrictlySortedBy table_key_cmp (keys_of s.entries)
  numbers : (table : ℕ) (key : List ℕ) → (sums_of s table key).rows
      ≡ count_by (is_row_of table key) rows
  long : (table : ℕ) (key : List ℕ) → length (sums_of s table key).totals ≡ slice_index widths table
  sums : (table : ℕ) (key : List ℕ) (col : ℕ) → col < slice_index widths table
      → slice_index (sums_of s table key).totals col ≡ sum_over table key col rows

more_rows : (b : Bool) (k : KeyTotals) (cells : List Held) → (cond b (with_row k cells) k).rows
    ≡ k.rows + cond b 1 0
more_rows true k cells = refl
more_rows false k cells = omega arith

more_long : (b : Bool) (k : KeyTotals) (cells : List Held)
    → length (cond b (with_row k cells) k).totals ≡ length k.totals
more_long true k cells = length-totals_by (λ t n. t + n) k.totals cells
more_long false k cells = refl

more_total : (b : Bool) (k : KeyTotals) (cells : List Held) (col : ℕ) → col < length k.totals
    → get_or (cond b (with_row k cells) k).totals col 0 ≡ get_or k.totals col 0 + cond b
    (counted_at cells col) 0
more_total true k cells col h = get_or-totals_more k.totals cells col h
more_total false k cells col h = omega arith

agrees-added : (widths : List ℕ) (s : SumMap) (rows : List SummedRow) (r : SummedRow)
    → Agrees widths s rows → Agrees widths (added s r.table r.key r.cells) (rows ++ r ∷ [])
agrees-added widths s rows r a = record {
  are = a.are;
  ordered = sorted-insert_entry table_key_cmp table_key_cmp_total s.entries (r.table, r.key)
      (with_row (sums_of s r.table r.key) r.cells) a.ordered;
  numbers = λ table key. ap (λ (k : KeyTotals). k.rows) (sums_of-added s r table key)
      ∙ more_rows (is_row_of table key r) (sums_of s table key) r.cells
      ∙ ap (λ n. n + cond (is_row_of table key r) 1 0) (a.numbers table key)
      ∙ sym (sum_by-push (λ x. cond (is_row_of table key x) 1 0) rows r);
  long = λ table key. ap (λ (k : KeyTotals). length k.totals) (sums_of-added s r table key)
      ∙ more_long (is_row_of table key r) (sums_of s table key) r.cells ∙ a.long table key;
  sums = λ table key col h. ap (λ (k : KeyTotals). get_or k.totals col 0)
      (sums_of-added s r table key)
      ∙ more_total (is_row_of table key r) (sums_of s table key) r.cells col
      (omega (arith, h, a.long table key))
      ∙ ap (λ n. n + cond (is_row_of table key r) (counted_at r.cells col) 0)
      (a.sums table key col h)
      ∙ sym (sum_by-push (λ x. cond (is_row_of table key x) (counted_at x.cells col) 0) rows r);
}

zeros : (n i : ℕ) → get_or {A = ℕ} (replicate n 0) i 0 ≡ 0
zeros n i = ⊎_elim
    (λ (inside : i < n). get_or-replicate {A = ℕ} n i 0 0 inside)
    (λ (past : n ≤ i). get_or_past (replicate n 0) i 0
    (omega (arith, past, length-replicate {A = ℕ} n 0)))
    (cases_lt i n)

-- a key's sums after a row of it was dropped
less : (b : Bool) (k : KeyTotals) (cells : List Held) (width : ℕ) (rows less_rows : ℕ)
    → k.rows ≡ rows → less_rows + cond b 1 0 ≡ rows
    → (cond b (unwrap_or (without_row k cells) (no_sums width)) k).rows ≡ less_rows
less false k cells width rows less_rows is e = omega (arith, is, e)
less true k cells width rows less_rows is e = ⊎_elim
    (λ (one : k.rows ≡ 1). let last = last_row k cells one in rw last (omega (arith, one, is, e)))
    (λ (more : k.rows ≢ 1). let rest = not_last_row k cells more in rw rest (omega (arith, is, e)))
    (cases_eq k.rows 1)

less_long : (b : Bool) (k : KeyTotals) (cells : List Held) (width : ℕ) → length k.totals ≡ width
    → length (cond b (unwrap_or (without_row k cells) (no_sums width)) k).totals ≡ width
less_long false k cells width is = is
less_long true k cells width is = ⊎_elim
    (λ (one : k.rows ≡ 1). let last = last_row k cells one in rw last (length-replicate width 0))
    (λ (more : k.rows ≢ 1). let rest = not_last_row k cells more in
    rw rest (length-totals_by (λ t n. t - n) k.totals cells ∙ is))
    (cases_eq k.rows 1)

less_total : (b : Bool) (k : KeyTotals) (cells : List Held) (width : ℕ) (rows : ℕ)
    (col total less_sum : ℕ) → k.rows ≡ rows + cond b 1 0 → (rows ≡ 0 → less_sum ≡ 0)
    → get_or k.totals col 0 ≡ total → less_sum + cond b (counted_at cells col) 0 ≡ total
    → get_or (cond b (unwrap_or (without_row k cells) (no_sums width)) k).totals col 0 ≡ less_sum
less_total false k cells width rows col total less_sum number none is e = omega (arith, is, e)
less_total true k cells width rows col total less_sum number none is e = ⊎_elim
    (λ (one : k.rows ≡ 1). let last = last_row k cells one in
    rw last (zeros width col ∙ sym (none (omega (arith, number, one)))))
    (λ (more : k.rows ≢ 1). let rest = not_last_row k cells more in
    rw (rest, get_or-totals_less k.totals cells col) (omega (arith, is, e)))
    (cases_eq k.rows 1)

removed : (f : SummedRow → ℕ) (rows : List SummedRow) (i : ℕ) (r : SummedRow)
    → slice_get rows i ≡ Some r → sum_by f (remove rows i) + f r ≡ sum_by f rows
removed f rows i r found = let at = get_or-found rows i r found in
    ap (λ x. sum_by f (remove rows i) + f x) (sym at.1) ∙ sum_by-remove f rows i r at.0

agrees-dropped : (widths : List ℕ) (s : SumMap) (rows : List SummedRow) (i : ℕ) (r : SummedRow)
    → slice_get rows i ≡ Some r → Agrees widths s rows
    → Agrees widths (dropped s r.table r.key r.cells) (remove rows i)
agrees-dropped widths s rows i r found a = record {
  are = a.are;
  ordered = sorted-put_or_take table_key_cmp_total s.entries (r.table, r.key)
      (without_row (sums_of s r.table r.key) r.cells) a.ordered;
  numbers = λ table key. ap (λ (k : KeyTotals). k.rows) (sums_of-dropped s r table key a.ordered)
      ∙ less (is_row_of table key r) (sums_of s table key) r.cells (slice_index s.widths table)
      (count_by (is_row_of table key) rows) (count_by (is_row_of table key) (remove rows i))
      (a.numbers table key) (removed (λ x. cond (is_row_of table key x) 1 0) rows i r found);
  long = λ table key. ap (λ (k : KeyTotals). length k.totals)
      (sums_of-dropped s r table key a.ordered)
      ∙ less_long (is_row_of table key r) (sums_of s table key) r.cells (slice_index s.widths table)
      (a.long table key ∙ ap (λ ws. slice_index ws table) (sym a.are))
      ∙ ap (λ ws. slice_index ws table) a.are;
  sums = λ table key col h. ap (λ (k : KeyTotals). get_or k.totals col 0)
      (sums_of-dropped s r table key a.ordered)
      ∙ less_total (is_row_of table key r) (sums_of s table key) r.cells
      (slice_index s.widths table) (count_by (is_row_of table key) (remove rows i)) col
      (sum_over table key col rows) (sum_over table key col (remove rows i))
      (a.numbers table key ∙ sym (removed (λ x. cond (is_row_of table key x) 1 0) rows i r found))
      (nothing_counted (is_row_of table key) (λ x. counted_at x.cells col) (remove rows i))
      (a.sums table key col h)
      (removed (λ x. cond (is_row_of table key x) (counted_at x.cells col) 0) rows i r found);
}

-- a sum over rows of which one has other cells
other_cells : (f : SummedRow → ℕ) (rows : List SummedRow) (i : ℕ) (r : SummedRow)
    (cells : List Held) → slice_get rows i ≡ Some r → sum_by f (with_other_cells rows i cells) + f r
    ≡ sum_by f rows + f (record r { cells = cells })
other_cells f [] i r cells found = cc
other_cells f (x ∷ rows) zero r cells found =
    let first : x ≡ r = cc in
    rw (← first) (omega (
      arith,
      sum_by-cons f x rows,
      sum_by-cons f (record x { cells = cells }) rows,
    ))
other_cells f (x ∷ rows) (suc i) r cells found =
    omega (
      arith,
      other_cells f rows i r cells found,
      sum_by-cons f x rows,
      sum_by-cons f x (with_other_cells rows i cells),
    )

-- a key's sums after a row of it gave way to another
swapped : (b : Bool) (k : KeyTotals) (olds news : List Held) (rows rest : ℕ) → k.rows ≡ rows
    → rest + cond b 1 0 ≡ rows → (cond b (with_row (with_row_less k olds) news) k).rows ≡ rows
swapped false k olds news rows rest is e = is
swapped true k olds news rows rest is e = omega (arith, is, e)

swapped_long : (b : Bool) (k : KeyTotals) (olds news : List Held)
    → length (cond b (with_row (with_row_less k olds) news) k).totals ≡ length k.totals
swapped_long false k olds news = refl
swapped_long true k olds news =
    length-totals_by (λ t n. t + n) (totals_by (λ t n. t - n) k.totals olds) news
    ∙ length-totals_by (λ t n. t - n) k.totals olds

swapped_total : (b : Bool) (k : KeyTotals) (olds news : List Held) (col total rest sum : ℕ)
    → col < length k.totals → get_or k.totals col 0 ≡ total → rest + cond b (counted_at olds col) 0
    ≡ total → sum + cond b (counted_at olds col) 0 ≡ total + cond b (counted_at news col) 0
    → get_or (cond b (with_row (with_row_less k olds) news) k).totals col 0 ≡ sum
swapped_total false k olds news col total rest sum inside is e swap = omega (arith, is, swap)
swapped_total true k olds news col total rest sum inside is e swap =
    get_or-totals_more (totals_by (λ t n. t - n) k.totals olds) news col
    (omega (arith, inside, length-totals_by (λ t n. t - n) k.totals olds))
    ∙ ap (λ n. n + counted_at news col) (get_or-totals_less k.totals olds col)
    ∙ omega (arith, is, e, swap)

agrees-replaced : (widths : List ℕ) (s : SumMap) (rows : List SummedRow) (i : ℕ) (r : SummedRow)
    (cells : List Held) → slice_get rows i ≡ Some r → Agrees widths s rows
    → Agrees widths (replaced s r.table r.key r.cells cells) (with_other_cells rows i cells)
agrees-replaced widths s rows i r cells found a = record {
  are = a.are;
  ordered = sorted-insert_entry table_key_cmp table_key_cmp_total s.entries (r.table, r.key)
      (with_row (with_row_less (sums_of s r.table r.key) r.cells) cells) a.ordered;
  numbers = λ table key. ap (λ (k : KeyTotals). k.rows) (sums_of-replaced s r cells table key)
      ∙ swapped (is_row_of table key r) (sums_of s table key) r.cells cells
      (count_by (is_row_of table key) rows) (count_by (is_row_of table key) (remove rows i))
      (a.numbers table key) (removed (λ x. cond (is_row_of table key x) 1 0) rows i r found)
      ∙ (let same = other_cells (λ x. cond (is_row_of table key x) 1 0) rows i r cells found in
      omega (arith, same));
  long = λ table key. ap (λ (k : KeyTotals). length k.totals) (sums_of-replaced s r cells table key)
      ∙ swapped_long (is_row_of table key r) (sums_of s table key) r.cells cells ∙ a.long table key;
  sums = λ table key col h. ap (λ (k : KeyTotals). get_or k.totals col 0)
      (sums_of-replaced s r cells table key)
      ∙ swapped_total (is_row_of table key r) (sums_of s table key) r.cells cells col
      (sum_over table key col rows) (sum_over table key col (remove rows i))
      (sum_over table key col (with_other_cells rows i cells))
      (omega (arith, h, a.long table key))
      (a.sums table key col h)
      (removed (λ x. cond (is_row_of table key x) (counted_at x.cells col) 0) rows i r found)
      (other_cells (λ x. cond (is_row_of table key x) (counted_at x.cells col) 0) rows i
      r cells found);
}

agrees-after : (widths : List ℕ) (changes : List Change) (s : SumMap) (rows : List SummedRow)
    → Agrees widths s rows → IsFair widths rows changes
    → Agrees widths (sums_after s rows changes) (standing rows changes)
agrees-after widths [] s rows a fair = a
agrees-after widths (Adds r ∷ changes) s rows a fair =
    agrees-after widths changes (added s r.table r.key r.cells) (rows ++ r ∷ [])
    (agrees-added widths s rows r a) fair.1
agrees-after widths (Drops i ∷ changes) s rows a fair =
    let r = found_row rows i fair.0 in
    let agrees : Agrees widths (dropped_row s (slice_get rows i)) (remove rows i) =
    rw r.1 (agrees-dropped widths s rows i r.0 r.1 a) in
    agrees-after widths changes (dropped_row s (slice_get rows i)) (remove rows i) agrees fair.1
agrees-after widths (Replaces i cells ∷ changes) s rows a fair =
    let r = found_row rows i fair.0 in
    let agrees : Agrees widths (replaced_row s (slice_get rows i) cells)
    (with_other_cells rows i cells) =
    rw r.1 (agrees-replaced widths s rows i r.0 cells r.1 a) in
    agrees-after widths changes (replaced_row s (slice_get rows i) cells)
    (with_other_cells rows i cells) agrees fair.1

agrees-empty : (widths : List ℕ) → Agrees widths (empty_sums widths) []
unfolding IsStrictlySortedBy
agrees-empty widths = record {
  are = refl;
  ordered = tt;
  numbers = λ table key. refl;
  long = λ table key. length-replicate (slice_index widths table) 0;
  sums = λ table key col h. zeros (slice_index widths table) col;
}

pub totals_are_sums_lem : TotalsAreSums
totals_are_sums_lem widths changes fair table key =
    let a : Agrees widths (sums_after (empty_sums widths) [] changes) (standing [] changes) =
    agrees-after widths changes (empty_sums widths) [] (agrees-empty widths) fair in
    (a.numbers table key, λ col h. a.sums table key col h)

-- ---- rows that stand can be dropped

-- a row is one of its own table and key
own_row : (r : SummedRow) → is_row_of r.table r.key r ≡ true
own_row r = ap is_eq (tied_itself table_key_cmp_total (r.table, r.key))

-- a column that a row doesn't have counts nothing
counted_past : (cells : List Held) (col : ℕ) → length cells ≤ col → counted_at cells col ≡ 0
counted_past [] col past = refl
counted_past (c ∷ cells) zero past = absurd (omega (arith, past))
counted_past (c ∷ cells) (suc col) past = counted_past cells col (omega (arith, past))

-- rows without one are whole still
whole-remove : (widths : List ℕ) (rows : List SummedRow) (i : ℕ)
    → AllByRecursion (IsWhole widths) rows → AllByRecursion (IsWhole widths) (remove rows i)
whole-remove widths [] zero whole = tt
whole-remove widths [] (suc i) whole = tt
whole-remove widths (x ∷ rows) zero whole = whole.1
whole-remove widths (x ∷ rows) (suc i) whole = (whole.0, whole-remove widths rows i whole.1)

whole-found : (widths : List ℕ) (rows : List SummedRow) (i : ℕ) (r : SummedRow)
    → AllByRecursion (IsWhole widths) rows → slice_get rows i ≡ Some r → IsWhole widths r
whole-found widths [] i r whole found = cc
whole-found widths (x ∷ rows) zero r whole found = let same : x ≡ r = cc in
    subst (λ (y : SummedRow). IsWhole widths y) same whole.0
whole-found widths (x ∷ rows) (suc i) r whole found = whole-found widths rows i r whole.1 found

-- a sum over rows is at most what so many can count
sum_over-le : (widths : List ℕ) (table : ℕ) (key : List ℕ) (col : ℕ) (rows : List SummedRow)
    → AllByRecursion (IsWhole widths) rows
    → sum_over table key col rows ≤ count_by (is_row_of table key) rows * (2 ^ 64 - 1)
sum_over-le widths table key col [] whole = omega arith
sum_over-le widths table key col (x ∷ rows) whole =
    by (sum_over-le widths table key col rows whole.1) (is_row_of table key x)
    (sum_by-cons (λ y. cond (is_row_of table key y) 1 0) x rows)
    (sum_by-cons (λ y. cond (is_row_of table key y) (counted_at y.cells col) 0) x rows)
  where
    by : sum_over table key col rows ≤ count_by (is_row_of table key) rows * (2 ^ 64 - 1)
        → (b : Bool) → count_by (is_row_of table key) (x ∷ rows) ≡ cond b 1 0 + count_by
        (is_row_of table key) rows → sum_over table key col (x ∷ rows)
        ≡ cond b (counted_at x.cells col) 0 + sum_over table key col rows
        → sum_over table key col (x ∷ rows) ≤ count_by (is_row_of table key) (x ∷ rows)
        * (2 ^ 64 - 1)
    by more true counts sums = omega (arith, more, counts, sums, whole.0.small col)
    by more false counts sums = omega (arith, more, counts, sums)

standing_can_drop_agreed : (widths : List ℕ) (s : SumMap) (rows : List SummedRow)
    → Agrees widths s rows → AllByRecursion (IsWhole widths) rows → (i : ℕ) (r : SummedRow)
    → slice_get rows i ≡ Some r → CanDrop (sums_of s r.table r.key) r.cells
standing_can_drop_agreed widths s rows a whole i r found = record {
  some = omega (arith, counted, numbers);
  enough = λ col. enough col (cases_lt col (slice_index widths r.table));
  left = λ col. left col (cases_lt col (slice_index widths r.table));
}
  where
    numbers : (sums_of s r.table r.key).rows ≡ count_by (is_row_of r.table r.key) rows
    numbers = a.numbers r.table r.key

    counted : count_by (is_row_of r.table r.key) (remove rows i) + 1
        ≡ count_by (is_row_of r.table r.key) rows
    counted = let all = removed (λ x. cond (is_row_of r.table r.key x) 1 0) rows i r found in
        rw (own_row r) at all

    one : IsWhole widths r
    one = whole-found widths rows i r whole found

    summed : (col : ℕ) → sum_over r.table r.key col (remove rows i) + counted_at r.cells col
        ≡ sum_over r.table r.key col rows
    summed col = let all = removed (λ x. cond (is_row_of r.table r.key x) (counted_at x.cells col)
        0) rows i r found in rw (own_row r) at all

    enough : (col : ℕ) → (col < slice_index widths r.table) ⊎ (slice_index widths r.table ≤ col)
        → counted_at r.cells col ≤ slice_index (sums_of s r.table r.key).totals col
    enough col (inl inside) = omega (arith, summed col, a.sums r.table r.key col inside)
    enough col (inr past) = omega (arith, counted_past r.cells col (omega (arith, one.width, past)))

    left : (col : ℕ) → (col < slice_index widths r.table) ⊎ (slice_index widths r.table ≤ col)
        → slice_index (sums_of s r.table r.key).totals col - counted_at r.cells col ≤
        ((sums_of s r.table r.key).rows - 1) * (2 ^ 64 - 1)
    left col (inl inside) =
        let others = sum_over-le widths r.table r.key col (remove rows i)
        (whole-remove widths rows i whole) in
        let total = a.sums r.table r.key col inside in
        let count : (sums_of s r.table r.key).rows - 1 ≡ count_by (is_row_of r.table r.key)
        (remove rows i) = omega (arith, counted, numbers) in
        rw count (omega (arith, summed col, others, total))
    left col (inr past) =
        let nothing : slice_index (sums_of s r.table r.key).totals col ≡ 0 =
        get_or_past (sums_of s r.table r.key).totals col 0
        (omega (arith, a.long r.table r.key, past)) in
        omega (arith, nothing)

pub standing_can_drop_lem : StandingCanDrop
standing_can_drop_lem widths changes fair whole i r found =
    standing_can_drop_agreed widths (sums_after (empty_sums widths) [] changes)
    (standing [] changes) (agrees-after widths changes (empty_sums widths) []
    (agrees-empty widths) fair) whole i r found
