-- How many rows all peers hold together, table by table and peer by peer.
use Rattle.std.proofs.Common.{◌≡◌, ℕ, ◌+◌, ◌-◌, ◌<◌, ◌≤◌, Bool, true, false, cond, ◌&&◌, ◌==◌, nat_lt}
use Rattle.std.proofs.Common.{List, [], ◌∷◌, length, refl, sym, ap, ◌∙◌, arith}
use Rattle.std.proofs.lemmas.Bool.Decides.{nat_tests}
use Rattle.std.specs.List.{AllByRecursion, count_by}
use Rattle.agg_types.specs.declared.row_key.RowKey.{RowKey}
use Rattle.fleet_model.proofs.Sizes.{count-cons}
use Rattle.fleet_model.specs.Keys.{held_rows}
use Rattle.fleet_model.specs.declared.arrival.Arrival.{Arrival}
use Rattle.peer_rows.specs.declared.row.Row.{Row}
use Rattle.book_rows.specs.Planned.{IsInside}
use Rattle.book_rows.specs.Shown.{arrivals, view_of_row}

abbrev Shown : Type 0
Shown = RowKey × Arrival

-- ---- rows of two kinds, and of none
both_kinds : (p q r : Shown → Bool)
    → ((row : Shown) → cond (p row) 1 0 ≡ cond (q row) 1 0 + cond (r row) 1 0)
    → (rows : List Shown) → count_by p rows ≡ count_by q rows + count_by r rows
both_kinds p q r parts [] = refl
both_kinds p q r parts (row ∷ rows) =
    let rest : count_by p rows ≡ count_by q rows + count_by r rows =
    both_kinds p q r parts rows in
    let one : cond (p row) 1 0 ≡ cond (q row) 1 0 + cond (r row) 1 0 = parts row in
    let whole = count-cons p row rows in
    let first = count-cons q row rows in
    let second = count-cons r row rows in
    omega arith

no_kind : (p : Shown → Bool) → ((row : Shown) → p row ≡ false) → (rows : List Shown)
    → count_by p rows ≡ 0
no_kind p none [] = refl
no_kind p none (row ∷ rows) =
    count-cons p row rows ∙ (λ i. cond (none row i) 1 0 + no_kind p none rows i)

-- ---- numbers below one more
next_below : (n m : ℕ) → cond (nat_lt m (n + 1)) 1 0 ≡ cond (nat_lt m n) 1 0 + cond (m == n) 1 0
next_below n m = by (nat_lt m n) refl (m == n) refl
  where
    by : (a : Bool) → nat_lt m n ≡ a → (b : Bool) → (m == n) ≡ b
        → cond (nat_lt m (n + 1)) 1 0 ≡ cond a 1 0 + cond b 1 0
    by true below true same = grind (arith, nat_tests)
    by true below false other =
        let less : nat_lt m (n + 1) ≡ true = grind (arith, nat_tests) in
        ap (λ b. cond b 1 0) less
    by false above true same =
        let less : nat_lt m (n + 1) ≡ true = grind (arith, nat_tests) in
        ap (λ b. cond b 1 0) less
    by false above false other =
        let more : nat_lt m (n + 1) ≡ false = grind (arith, nat_tests) in
        ap (λ b. cond b 1 0) more

none_below : (m : ℕ) → nat_lt m 0 ≡ false
none_below m = grind (arith, nat_tests)

-- ---- a table's rows, peer by peer
pub of_no_peer : (table : ℕ) (rows : List Shown)
    → count_by (λ row. (row.0.table == table) && nat_lt row.0.peer 0) rows ≡ 0
of_no_peer table rows = no_kind (λ row. (row.0.table == table) && nat_lt row.0.peer 0)
    (λ row. by row (row.0.table == table)) rows
  where
    by : (row : Shown) (b : Bool) → b && nat_lt row.0.peer 0 ≡ false
    by row true = none_below row.0.peer
    by row false = refl

pub one_peer_more : (table n : ℕ) (rows : List Shown)
    → count_by (λ row. (row.0.table == table) && nat_lt row.0.peer (n + 1)) rows
    ≡ count_by (λ row. (row.0.table == table) && nat_lt row.0.peer n) rows
    + held_rows rows table n
one_peer_more table n rows = both_kinds
    (λ row. (row.0.table == table) && nat_lt row.0.peer (n + 1))
    (λ row. (row.0.table == table) && nat_lt row.0.peer n)
    (λ row. (row.0.table == table) && (row.0.peer == n))
    (λ row. by row (row.0.table == table)) rows
  where
    by : (row : Shown) (b : Bool) → cond (b && nat_lt row.0.peer (n + 1)) 1 0
        ≡ cond (b && nat_lt row.0.peer n) 1 0 + cond (b && (row.0.peer == n)) 1 0
    by row true = next_below n row.0.peer
    by row false = refl

pub of_all_peers : (peers tables table n : ℕ) → peers ≤ n → (es : List (RowKey × Row))
    → AllByRecursion (λ e. IsInside peers tables e.0) es
    → count_by (λ row. (row.0.table == table) && nat_lt row.0.peer n) (arrivals es)
    ≡ count_by (λ row. row.0.table == table) (arrivals es)
of_all_peers peers tables table n past [] inside = refl
of_all_peers peers tables table n past (e ∷ es) inside =
    let p : Shown → Bool = λ row. (row.0.table == table) && nat_lt row.0.peer n in
    let q : Shown → Bool = λ row. row.0.table == table in
    let rest : count_by p (arrivals es) ≡ count_by q (arrivals es) =
    of_all_peers peers tables table n past es inside.1 in
    let there : e.0.peer < peers = inside.0.0 in
    let below : e.0.peer < n = omega arith in
    let is : nat_lt e.0.peer n ≡ true = grind (arith, nat_tests) in
    count-cons p (view_of_row e) (arrivals es)
    ∙ (λ i. cond (with_true (e.0.table == table) (nat_lt e.0.peer n) is i) 1 0 + rest i)
    ∙ sym (count-cons q (view_of_row e) (arrivals es))
  where
    with_true : (a b : Bool) → b ≡ true → a && b ≡ a
    with_true true b is = is
    with_true false b is = refl

-- ---- all rows, table by table
pub of_no_table : (rows : List Shown) → count_by (λ row. nat_lt row.0.table 0) rows ≡ 0
of_no_table rows = no_kind (λ row. nat_lt row.0.table 0) (λ row. none_below row.0.table) rows

pub one_table_more : (n : ℕ) (rows : List Shown)
    → count_by (λ row. nat_lt row.0.table (n + 1)) rows
    ≡ count_by (λ row. nat_lt row.0.table n) rows + count_by (λ row. row.0.table == n) rows
one_table_more n rows = both_kinds (λ row. nat_lt row.0.table (n + 1))
    (λ row. nat_lt row.0.table n) (λ row. row.0.table == n) (λ row. next_below n row.0.table) rows

pub of_all_tables : (peers tables n : ℕ) → tables ≤ n → (es : List (RowKey × Row))
    → AllByRecursion (λ e. IsInside peers tables e.0) es
    → count_by (λ row. nat_lt row.0.table n) (arrivals es) ≡ length (arrivals es)
of_all_tables peers tables n past [] inside = refl
of_all_tables peers tables n past (e ∷ es) inside =
    let p : Shown → Bool = λ row. nat_lt row.0.table n in
    let rest : count_by p (arrivals es) ≡ length (arrivals es) =
    of_all_tables peers tables n past es inside.1 in
    let there : e.0.table < tables = inside.0.1 in
    let below : e.0.table < n = omega arith in
    let is : nat_lt e.0.table n ≡ true = grind (arith, nat_tests) in
    let more : 1 + length (arrivals es) ≡ length (arrivals (e ∷ es)) = omega arith in
    count-cons p (view_of_row e) (arrivals es) ∙ ((λ i. cond (is i) 1 0 + rest i) ∙ more)

-- ---- what is left beside them
pub none_yet : (most n : ℕ) → n ≡ 0 → most ≡ most - n
none_yet most n none = omega arith

pub less_more : (most free left a b whole : ℕ) → free ≡ most - a → left ≡ free - b → whole ≡ a + b
    → left ≡ most - whole
less_more most free left a b whole before next more = omega arith
