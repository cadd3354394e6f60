-- The rows of one key, as rows come and go.
use Rattle.std.proofs.Common.{◌≡◌, ℕ, ◌+◌, ◌-◌, Bool, true, false, cond, not, ◌&&◌, ◌||◌, ◌==◌}
use Rattle.std.proofs.Common.{List, [], ◌∷◌, map, Option, None, Some, T, refl, sym, ap, ◌∙◌, subst}
use Rattle.std.proofs.Common.{zero-add, arith}
use Rattle.std.proofs.lemmas.Bool.{and_parts, eqb-true}
use Rattle.std.proofs.lemmas.Cmp.{nat_list_cmp_total}
use Rattle.std.proofs.lemmas.List.Sums.{sum_by-cons}
use Rattle.std.proofs.lemmas.Map.Lookups.{exact_bytes}
use Rattle.std.specs.BTreeMap.{insert_entry, is_at}
use Rattle.std.specs.Cmp.{IsTotalOrder}
use Rattle.std.specs.Cmp.Lexicographic.{slice_cmp}
use Rattle.std.specs.FinMap.Entries.{is_sorted}
use Rattle.std.specs.List.{AllByRecursion, filter, list_all, list_any, sum_by}
use Rattle.std.specs.Map.{lookup, remove_entry}
use Rattle.std.specs.Ordering.{is_eq, nat_cmp}
use Rattle.std.specs.declared.cmp.Ordering.{Ordering}
use Rattle.std.specs.declared.cmp.Ordering.TheVariants.{Equal}
use Rattle.agg_types.specs.Col.{all_cols}
use Rattle.agg_types.specs.Op.{op_holds}
use Rattle.agg_types.specs.RowKey.{row_key_cmp}
use Rattle.agg_types.specs.declared.column.Col.{Col}
use Rattle.agg_types.specs.declared.config.Cond.{Cond}
use Rattle.agg_types.specs.declared.config.Filter.{Filter}
use Rattle.agg_types.specs.declared.config.Shape.{Shape}
use Rattle.agg_types.specs.declared.event.Select.{Select}
use Rattle.agg_types.specs.declared.row_key.RowKey.{RowKey}
use Rattle.fleet_model.proofs.Entries.{equal_from, keep, kept_here, lookup-filter, lookup-insert}
use Rattle.fleet_model.proofs.Entries.{same_lookups, sorted-filter, sorted-insert}
use Rattle.fleet_model.proofs.Every.{every-filter, sorted_from}
use Rattle.fleet_model.proofs.InForce.{row_key_cmp_exact, row_key_cmp_total}
use Rattle.fleet_model.proofs.Members.{same_members}
use Rattle.fleet_model.proofs.Sets.{sets}
use Rattle.fleet_model.specs.Answers.{rows_of, set_at, sum_up, summed}
use Rattle.fleet_model.specs.Keys.{AreInOrder, AreKeysOf, AreLiveAt, Rows, has_live, holds}
use Rattle.fleet_model.specs.Keys.{is_at_key, key_rows, meet_at, row_at, row_worth, sum_of}
use Rattle.fleet_model.specs.Keys.{worth_of}
use Rattle.fleet_model.specs.Laws.{IsOrdered, has_live_row}
use Rattle.fleet_model.specs.Machine.{with_row}
use Rattle.fleet_model.specs.Moments.{is_live}
use Rattle.fleet_model.specs.State.{State}
use Rattle.fleet_model.specs.Values.{cols_of, column_worth, is_of, meets, same_key, selects, share}
use Rattle.fleet_model.specs.Values.{value}
use Rattle.fleet_model.specs.declared.arrival.Arrival.{Arrival}
use Rattle.fleet_model.specs.declared.summed.Summed.{Summed}

-- ---- a choice by the key alone
none_kept : {X : Type 0} (o : Option X) → keep (λ _. false) o ≡ None
none_kept None = refl
none_kept (Some x) = refl

kept_apart : {X : Type 0} (here wanted : Bool) (v : X) (o : Option X)
    → (here ≡ true → wanted ≡ false) → keep (λ _. wanted) (cond here (Some v) o)
    ≡ keep (λ _. wanted) o
kept_apart true wanted v o h = ap (λ b. keep (λ _. b) (Some v)) (h refl) ∙ sym (none_kept o)
    ∙ sym (ap (λ b. keep (λ _. b) o) (h refl))
kept_apart false wanted v o h = refl

either_way : {X : Type 0} (b : Bool) (x : X) → x ≡ cond b x x
either_way true x = refl
either_way false x = refl

module _ {K X : Type 0} (R : K → K → Ordering) (o : IsTotalOrder R) (exact : (x y : K)
    → R x y ≡ Equal → x ≡ y) where
  pub chosen-insert : (q : K → Bool) (es : List (K × X)) (k : K) (v : X) → T (is_sorted R es)
      → filter (λ e. q e.0) (insert_entry R es k v)
      ≡ cond (q k) (insert_entry R (filter (λ e. q e.0) es) k v) (filter (λ e. q e.0) es)
  chosen-insert q es k v h =
      let p : K × X → Bool = λ e. q e.0 in
      let more : T (is_sorted R (insert_entry R es k v)) = sorted-insert R o exact es k v h in
      let fewer : T (is_sorted R (filter p es)) = sorted-filter R p es h in
      let found : (x : K) → lookup (is_at (R x)) (filter p (insert_entry R es k v))
      ≡ keep (λ _. q x) (cond (is_eq (R x k)) (Some v) (lookup (is_at (R x)) es)) =
      λ x. lookup-filter R o exact x p (insert_entry R es k v) more
      ∙ ap (keep (λ _. q x)) (lookup-insert R o exact x es k v) in
      elim (q k) as (λ b. q k ≡ b → filter p (insert_entry R es k v)
      ≡ cond b (insert_entry R (filter p es) k v) (filter p es)) [
        | true ↦ λ c. same_lookups R o exact _ _ (sorted-filter R p (insert_entry R es k v) more)
            (sorted-insert R o exact (filter p es) k v fewer) (λ x. found x
            ∙ kept_here (λ _. q x) (is_eq (R x k)) v (lookup (is_at (R x)) es)
            (λ t. ap q (exact x k (equal_from _ t)) ∙ c)
            ∙ ap (cond (is_eq (R x k)) (Some v)) (sym (lookup-filter R o exact x p es h))
            ∙ sym (lookup-insert R o exact x (filter p es) k v))
        | false ↦ λ c. same_lookups R o exact _ _ (sorted-filter R p (insert_entry R es k v) more)
            fewer (λ x. found x
            ∙ kept_apart (is_eq (R x k)) (q x) v (lookup (is_at (R x)) es)
            (λ t. ap q (exact x k (equal_from _ t)) ∙ c)
            ∙ sym (lookup-filter R o exact x p es h))
      ] refl

  pub chosen-remove : (q : K → Bool) (es : List (K × X)) (k : K)
      → filter (λ e. q e.0) (remove_entry (is_at (R k)) es)
      ≡ cond (q k) (remove_entry (is_at (R k)) (filter (λ e. q e.0) es)) (filter (λ e. q e.0) es)
  chosen-remove q [] k = either_way (q k) []
  chosen-remove q (e ∷ es) k =
      elim (is_eq (R k e.0)) as (λ b. is_eq (R k e.0) ≡ b
      → filter (λ e. q e.0) (cond b es (e ∷ remove_entry (is_at (R k)) es))
      ≡ cond (q k) (remove_entry (is_at (R k)) (cond (q e.0) (e ∷ filter (λ e. q e.0) es)
      (filter (λ e. q e.0) es))) (cond (q e.0) (e ∷ filter (λ e. q e.0) es)
      (filter (λ e. q e.0) es))) [
        | true ↦ λ here. gone (q k) (q e.0) e (filter (λ e. q e.0) es) here
            (ap q (exact k e.0 (equal_from _ here)))
        | false ↦ λ other. ap (λ rest. cond (q e.0) (e ∷ rest) rest) (chosen-remove q es k)
            ∙ stays (q k) (q e.0) e (filter (λ e. q e.0) es) other
      ] refl
    where
      gone : (wanted its : Bool) (e : K × X) (rest : List (K × X)) → is_eq (R k e.0) ≡ true
          → wanted ≡ its → rest ≡ cond wanted
          (remove_entry (is_at (R k)) (cond its (e ∷ rest) rest)) (cond its (e ∷ rest) rest)
      gone true true e rest here is =
          sym (ap (λ b. cond b rest (e ∷ remove_entry (is_at (R k)) rest)) here)
      gone true false e rest here is = cc
      gone false true e rest here is = cc
      gone false false e rest here is = refl

      stays : (wanted its : Bool) (e : K × X) (rest : List (K × X)) → is_eq (R k e.0) ≡ false
          → cond its (e ∷ cond wanted (remove_entry (is_at (R k)) rest) rest)
          (cond wanted (remove_entry (is_at (R k)) rest) rest)
          ≡ cond wanted (remove_entry (is_at (R k)) (cond its (e ∷ rest) rest))
          (cond its (e ∷ rest) rest)
      stays true true e rest other =
          sym (ap (λ b. cond b rest (e ∷ remove_entry (is_at (R k)) rest)) other)
      stays true false e rest other = refl
      stays false true e rest other = refl
      stays false false e rest other = refl

-- two choices, in either order
pub filter-swap : {X : Type 0} (p q : X → Bool) (xs : List X)
    → filter p (filter q xs) ≡ filter q (filter p xs)
filter-swap p q [] = refl
filter-swap p q (x ∷ xs) =
    elim (p x) as (λ a. p x ≡ a → filter p (cond (q x) (x ∷ filter q xs) (filter q xs))
    ≡ filter q (cond a (x ∷ filter p xs) (filter p xs))) [
      | true ↦ λ c. elim (q x) as (λ b. q x ≡ b → filter p (cond b (x ∷ filter q xs) (filter q xs))
          ≡ cond b (x ∷ filter q (filter p xs)) (filter q (filter p xs))) [
            | true ↦ λ d. ap (λ a. cond a (x ∷ filter p (filter q xs)) (filter p (filter q xs))) c
                ∙ ap (λ rest. x ∷ rest) (filter-swap p q xs)
            | false ↦ λ d. filter-swap p q xs
          ] refl
      | false ↦ λ c. elim (q x) as (λ b. filter p (cond b (x ∷ filter q xs) (filter q xs))
          ≡ filter q (filter p xs)) [
            | true ↦ ap (λ a. cond a (x ∷ filter p (filter q xs)) (filter p (filter q xs))) c
                ∙ filter-swap p q xs
            | false ↦ filter-swap p q xs
          ]
    ] refl

-- ---- what a Put, a Moment and a Clear do
pub put-own : (t : ℕ) (rows : Rows) (place : RowKey) (row : Arrival) (table : ℕ) (key : List ℕ)
    → AreInOrder rows → is_at_key table key place ≡ true
    → key_rows (with_row t rows place row) table key
    ≡ with_row t (key_rows rows table key) place row
unfolding with_row
put-own t rows place row table key h its =
    elim (is_live t row) as (λ b. key_rows (cond b (insert_entry row_key_cmp rows place row)
    (remove_entry (is_at (row_key_cmp place)) rows)) table key
    ≡ cond b (insert_entry row_key_cmp (key_rows rows table key) place row)
    (remove_entry (is_at (row_key_cmp place)) (key_rows rows table key))) [
      | true ↦ chosen-insert row_key_cmp row_key_cmp_total row_key_cmp_exact (is_at_key table key)
          rows place row (sorted_from row_key_cmp rows h)
          ∙ ap (λ b. cond b (insert_entry row_key_cmp (key_rows rows table key) place row)
          (key_rows rows table key)) its
      | false ↦ chosen-remove row_key_cmp row_key_cmp_total row_key_cmp_exact
          (is_at_key table key) rows place
          ∙ ap (λ b. cond b (remove_entry (is_at (row_key_cmp place)) (key_rows rows table key))
          (key_rows rows table key)) its
    ]

pub put-others : (t : ℕ) (rows : Rows) (place : RowKey) (row : Arrival) (table : ℕ) (key : List ℕ)
    → AreInOrder rows → is_at_key table key place ≡ false
    → key_rows (with_row t rows place row) table key ≡ key_rows rows table key
unfolding with_row
put-others t rows place row table key h other =
    elim (is_live t row) as (λ b. key_rows (cond b (insert_entry row_key_cmp rows place row)
    (remove_entry (is_at (row_key_cmp place)) rows)) table key ≡ key_rows rows table key) [
      | true ↦ chosen-insert row_key_cmp row_key_cmp_total row_key_cmp_exact (is_at_key table key)
          rows place row (sorted_from row_key_cmp rows h)
          ∙ ap (λ b. cond b (insert_entry row_key_cmp (key_rows rows table key) place row)
          (key_rows rows table key)) other
      | false ↦ chosen-remove row_key_cmp row_key_cmp_total row_key_cmp_exact
          (is_at_key table key) rows place
          ∙ ap (λ b. cond b (remove_entry (is_at (row_key_cmp place)) (key_rows rows table key))
          (key_rows rows table key)) other
    ]

pub moment-each : (later : ℕ) (rows : Rows) (table : ℕ) (key : List ℕ)
    → key_rows (filter (λ row. is_live later row.1) rows) table key
    ≡ filter (λ row. is_live later row.1) (key_rows rows table key)
moment-each later rows table key =
    filter-swap (λ row. is_at_key table key row.0) (λ row. is_live later row.1) rows

-- rows of a key are gone where their test depends on the key alone
pub clear-each : (gone : List ℕ → Bool) (rows : Rows) (cleared table : ℕ) (key : List ℕ)
    → key_rows (filter (λ row. not ((row.0.table == cleared) && gone row.0.key)) rows) table key
    ≡ cond ((table == cleared) && gone key) [] (key_rows rows table key)
clear-each gone [] cleared table key = either_way ((table == cleared) && gone key) []
clear-each gone (row ∷ rows) cleared table key =
    pushed (not ((row.0.table == cleared) && gone row.0.key)) (is_at_key table key row.0)
    ∙ ap (λ rest. cond (not ((row.0.table == cleared) && gone row.0.key))
    (cond (is_at_key table key row.0) (row ∷ rest) rest) rest)
    (clear-each gone rows cleared table key)
    ∙ either (is_at_key table key row.0) ((row.0.table == cleared) && gone row.0.key)
    ((table == cleared) && gone key) (key_rows rows table key)
    (λ its.
    let parts = and_parts (row.0.table == table) (same_key key row.0.key) its in
    let same : row.0.key ≡ key = sym (exact_bytes key row.0.key (equal_from _ parts.1)) in
    λ i. (eqb-true row.0.table table parts.0 i == cleared) && gone (same i))
  where
    pushed : (stays its : Bool) → key_rows
        (cond stays (row ∷ filter (λ row. not ((row.0.table == cleared) && gone row.0.key)) rows)
        (filter (λ row. not ((row.0.table == cleared) && gone row.0.key)) rows)) table key
        ≡ cond stays (cond (is_at_key table key row.0)
        (row ∷ key_rows (filter (λ row. not ((row.0.table == cleared) && gone row.0.key)) rows)
        table key) (key_rows (filter (λ row. not ((row.0.table == cleared) && gone row.0.key)) rows)
        table key)) (key_rows (filter (λ row. not ((row.0.table == cleared) && gone row.0.key))
        rows) table key)
    pushed true its = refl
    pushed false its = refl

    either : (its goes all : Bool) (rest : Rows) → (its ≡ true → goes ≡ all)
        → cond (not goes) (cond its (row ∷ cond all [] rest) (cond all [] rest)) (cond all [] rest)
        ≡ cond all [] (cond its (row ∷ rest) rest)
    either true true true rest h = refl
    either true true false rest h = let no = h refl in cc
    either true false true rest h = let no = h refl in cc
    either true false false rest h = refl
    either false true true rest h = refl
    either false true false rest h = refl
    either false false true rest h = refl
    either false false false rest h = refl

-- ---- rows that fail a test go one by one
pub one-goes : (p : RowKey × Arrival → Bool) (rows : Rows) (place : RowKey) (row : Arrival)
    → row_at rows place ≡ Some row → p (place, row) ≡ false
    → filter p (remove_entry (is_at (row_key_cmp place)) rows) ≡ filter p rows
one-goes p [] place row there fails = refl
one-goes p (e ∷ es) place row there fails =
    elim (is_eq (row_key_cmp place e.0)) as (λ b. is_eq (row_key_cmp place e.0) ≡ b
    → cond b (Some e.1) (row_at es place) ≡ Some row
    → filter p (cond b es (e ∷ remove_entry (is_at (row_key_cmp place)) es)) ≡ filter p (e ∷ es)) [
      | true ↦ λ here found.
          let places : e.0 ≡ place = sym (row_key_cmp_exact place e.0 (equal_from _ here)) in
          let own : p e ≡ false = (λ i. p (places i, own_row e.1 row found i)) ∙ fails in
          sym (ap (λ b. cond b (e ∷ filter p es) (filter p es)) own)
      | false ↦ λ other found. ap (λ rest. cond (p e) (e ∷ rest) rest)
          (one-goes p es place row found fails)
    ] refl there
  where
    own_row : (a b : Arrival) → Some a ≡ Some b → a ≡ b
    own_row a b is = cc

pub all-stay : {X : Type 0} (p : X → Bool) (xs : List X) → AllByRecursion (λ x. p x ≡ true) xs
    → filter p xs ≡ xs
all-stay p [] h = refl
all-stay p (x ∷ xs) h = ap (λ b. cond b (x ∷ filter p xs) (filter p xs)) h.0
    ∙ ap (λ rest. x ∷ rest) (all-stay p xs h.1)

-- ---- what is said of a key by its rows
share_is : (cols : List (Col × ℕ)) (table : ℕ) (key : List ℕ) (col : Col) (t : ℕ) (row : RowKey
    × Arrival) → share cols table key col t row ≡ cond (is_at_key table key row.0)
    (row_worth cols col t row.1) 0
unfolding share
share_is cols table key col t row = split (is_at_key table key row.0) (is_live t row.1)
    (column_worth col (t - row.1.arrived) cols row.1.cells)
  where
    split : (its live : Bool) (n : ℕ) → cond (its && live) n 0 ≡ cond its (cond live n 0) 0
    split true live n = refl
    split false live n = refl

pub value-rows : (cols : List (Col × ℕ)) (rows : Rows) (table : ℕ) (key : List ℕ) (col : Col)
    (t : ℕ) → value cols rows table key col t ≡ worth_of cols (key_rows rows table key) col t
unfolding value
value-rows cols [] table key col t = refl
value-rows cols (row ∷ rows) table key col t =
    let worth : RowKey × Arrival → ℕ = λ row. row_worth cols col t row.1 in
    let rest : sum_by (share cols table key col t) rows ≡ sum_by worth (key_rows rows table key) =
    value-rows cols rows table key col t in
    sum_by-cons (share cols table key col t) row rows
    ∙ (λ i. share_is cols table key col t row i + rest i)
    ∙ pushed (is_at_key table key row.0) (key_rows rows table key)
  where
    pushed : (b : Bool) (rest : Rows) → cond b (row_worth cols col t row.1) 0 + worth_of cols rest
        col t ≡ worth_of cols (cond b (row ∷ rest) rest) col t
    pushed true rest = sym (sum_by-cons (λ (row : RowKey × Arrival). row_worth cols col t row.1) row
        rest)
    pushed false rest = zero-add (worth_of cols rest col t)

pub meets-rows : (cols : List (Col × ℕ)) (rows : Rows) (table : ℕ) (key : List ℕ) (t : ℕ)
    (conds : List Cond) → meets cols rows table key t conds
    ≡ meet_at cols (key_rows rows table key) conds t
unfolding meets
meets-rows cols rows table key t conds =
    λ i. list_all (λ cond. op_holds cond.op (value-rows cols rows table key cond.col t i)
    cond.bound) conds

pub live-rows : (rows : Rows) (table : ℕ) (key : List ℕ) (t : ℕ) → has_live_row rows table key t
    ≡ has_live (key_rows rows table key) t
live-rows [] table key t = refl
live-rows (row ∷ rows) table key t =
    ap (λ b. is_of table key t row || b) (live-rows rows table key t)
    ∙ pushed (is_at_key table key row.0) (is_live t row.1) (key_rows rows table key) refl
  where
    pushed : (its live : Bool) (rest : Rows) → is_live t row.1 ≡ live
        → ((its && live) || has_live rest t) ≡ has_live (cond its (row ∷ rest) rest) t
    pushed true live rest is = ap (λ b. b || has_live rest t) (sym is)
    pushed false live rest is = refl

pub of-rows : (state : State) (table : ℕ) (key : List ℕ)
    → rows_of state table key ≡ filter (λ row. is_live state.moment row.1)
    (key_rows state.rows table key)
unfolding rows_of
of-rows state table key = both_tests state.rows
  where
    both_tests : (rows : Rows) → filter (is_of table key state.moment) rows
        ≡ filter (λ row. is_live state.moment row.1) (key_rows rows table key)
    both_tests [] = refl
    both_tests (row ∷ rows) =
        ap (λ rest. cond (is_of table key state.moment row) (row ∷ rest) rest) (both_tests rows)
        ∙ pushed row (is_at_key table key row.0) (key_rows rows table key)
      where
        pushed : (row : RowKey × Arrival) (its : Bool) (rest : Rows)
            → cond (its && is_live state.moment row.1)
            (row ∷ filter (λ row. is_live state.moment row.1) rest)
            (filter (λ row. is_live state.moment row.1) rest)
            ≡ filter (λ row. is_live state.moment row.1) (cond its (row ∷ rest) rest)
        pushed row true rest = refl
        pushed row false rest = refl

pub summed-rows : (state : State) (table : ℕ) (key : List ℕ) → AreLiveAt state.moment state.rows
    → summed state table key ≡ sum_of (cols_of state.config.tables table)
    (key_rows state.rows table key) state.moment
unfolding summed
summed-rows state table key live =
    let cols = cols_of state.config.tables table in
    let kept : AreLiveAt state.moment (key_rows state.rows table key) =
    every-filter (λ row. is_live state.moment row.1 ≡ true) (λ row. is_at_key table key row.0)
    state.rows live in
    let rows : rows_of state table key ≡ key_rows state.rows table key = of-rows state table key
    ∙ all-stay (λ row. is_live state.moment row.1) (key_rows state.rows table key) kept in
    λ i. sum_up (map (λ col. value-rows cols state.rows table key col state.moment i) all_cols)
    state.moment (rows i)

-- ---- the set of a filter
pub held-keys : (state : State) (filtering : Filter) (t : ℕ) → IsOrdered state
    → AreKeysOf (λ key. holds state filtering key t) (set_at state filtering t)
held-keys state filtering t h =
    let list = sets state filtering t h in
    let cols = cols_of state.config.tables filtering.table in
    record {
      in_order = list.in_order;
      exact = λ key. list.exact key
          ∙ (λ i. live-rows state.rows filtering.table key t i
          && list_all (λ cond. op_holds cond.op (value-rows cols state.rows filtering.table key
          cond.col t i) cond.bound) filtering.conds);
    }

pub only-keys : (test : List ℕ → Bool) (keys others : List (List ℕ)) → AreKeysOf test keys
    → AreKeysOf test others → keys ≡ others
only-keys test keys others g h = same_members (slice_cmp nat_cmp) nat_list_cmp_total exact_bytes
    keys others g.in_order h.in_order (λ key. g.exact key ∙ sym (h.exact key))
