-- How many rows a peer holds, and how many keys a table has, as rows come and go.
use Rattle.std.proofs.Common.{◌≡◌, ℕ, ◌+◌, Bool, true, false, cond, not, ◌&&◌, ◌||◌, ◌==◌, List, []}
use Rattle.std.proofs.Common.{◌∷◌, length, Option, None, Some, is_some, suc, refl, sym, ap, ◌∙◌}
use Rattle.std.proofs.Common.{arith}
use Rattle.std.proofs.lemmas.Bool.Decides.{nat_tests}
use Rattle.std.proofs.lemmas.Cmp.{nat_list_cmp_total}
use Rattle.std.proofs.lemmas.List.Kept.{IsStrictlySortedBy-filter}
use Rattle.std.proofs.lemmas.Map.Lookups.{exact_bytes}
use Rattle.std.specs.BTreeMap.{insert_entry, is_at}
use Rattle.std.specs.Cmp.{IsTotalOrder}
use Rattle.std.specs.Cmp.Lexicographic.{slice_cmp}
use Rattle.std.specs.List.{AllByRecursion, filter, list_any}
use Rattle.std.specs.List.Sorted.{IsStrictlySortedBy}
use Rattle.std.specs.Map.{lookup, remove_entry}
use Rattle.std.specs.Option.{option_map_or}
use Rattle.std.specs.Ordering.{is_eq, nat_cmp}
use Rattle.std.specs.declared.cmp.Ordering.{Ordering}
use Rattle.std.specs.declared.cmp.Ordering.TheVariants.{Less, Equal}
use Rattle.agg_types.specs.RowKey.{row_key_cmp}
use Rattle.agg_types.specs.declared.row_key.RowKey.{RowKey}
use Rattle.fleet_model.proofs.Entries.{equal_from}
use Rattle.fleet_model.proofs.Every.{sorted_from}
use Rattle.fleet_model.proofs.KeyRows.{live-rows}
use Rattle.fleet_model.proofs.Members.{among, among-filter, same_members}
use Rattle.fleet_model.proofs.Running.{sum-insert, sum-remove}
use Rattle.fleet_model.proofs.Sets.{live_keys-exact, live_keys-sorted}
use Rattle.fleet_model.specs.Keys.{AreInOrder, AreLiveAt, Rows, has_live, held_rows, key_rows}
use Rattle.fleet_model.specs.Keys.{one_if, row_at}
use Rattle.fleet_model.specs.Laws.{worth_at}
use Rattle.fleet_model.specs.Machine.{with_row}
use Rattle.fleet_model.specs.Moments.{is_live}
use Rattle.fleet_model.specs.Values.{live_keys, same_key}
use Rattle.fleet_model.specs.declared.arrival.Arrival.{Arrival}

-- ---- rows of a peer
abbrev is_held : ℕ → ℕ → RowKey → Bool
is_held table peer place = (place.table == table) && (place.peer == peer)

worth_is : (its : Bool) (old : Option Arrival) → option_map_or (λ _. cond its 1 0) old 0
    ≡ one_if (its && is_some old)
worth_is true None = refl
worth_is true (Some row) = refl
worth_is false None = refl
worth_is false (Some row) = refl

pub held-taken : (rows : Rows) (place : RowKey) (table peer : ℕ)
    → held_rows (remove_entry (is_at (row_key_cmp place)) rows) table peer + one_if
    (is_held table peer place && is_some (row_at rows place)) ≡ held_rows rows table peer
held-taken rows place table peer =
    let count : RowKey × Arrival → ℕ = λ row. cond (is_held table peer row.0) 1 0 in
    ap (λ n. held_rows (remove_entry (is_at (row_key_cmp place)) rows) table peer + n)
    (sym (worth_is (is_held table peer place) (row_at rows place)))
    ∙ sum-remove count rows place

pub held-put : (t : ℕ) (rows : Rows) (place : RowKey) (row : Arrival) (table peer : ℕ)
    → AreInOrder rows → held_rows (with_row t rows place row) table peer + one_if
    (is_held table peer place && is_some (row_at rows place)) ≡ held_rows rows table peer + one_if
    (is_held table peer place && is_live t row)
unfolding with_row
held-put t rows place row table peer h =
    let count : RowKey × Arrival → ℕ = λ row. cond (is_held table peer row.0) 1 0 in
    elim (is_live t row) as (λ b. held_rows (cond b (insert_entry row_key_cmp rows place row)
    (remove_entry (is_at (row_key_cmp place)) rows)) table peer + one_if (is_held table peer place
    && is_some (row_at rows place)) ≡ held_rows rows table peer + one_if
    (is_held table peer place && b)) [
      | true ↦ ap (λ n. held_rows (insert_entry row_key_cmp rows place row) table peer + n)
          (sym (worth_is (is_held table peer place) (row_at rows place)))
          ∙ sum-insert count rows place row h
          ∙ ap (λ b. held_rows rows table peer + cond b 1 0)
          (sym (and_true (is_held table peer place)))
      | false ↦ held-taken rows place table peer
          ∙ sym (nothing_more (held_rows rows table peer) (is_held table peer place))
    ]
  where
    and_true : (b : Bool) → (b && true) ≡ b
    and_true true = refl
    and_true false = refl

    nothing_more : (n : ℕ) (b : Bool) → n + one_if (b && false) ≡ n
    nothing_more n true = omega arith
    nothing_more n false = omega arith

-- ---- keys of a table
module _ {K : Type 0} (R : K → K → Ordering) (o : IsTotalOrder R) where
  none_later : (k x : K) (xs : List K) → R k x ≡ Equal → AllByRecursion (λ y. R x y ≡ Less) xs
      → (filter (λ y. not (is_eq (R k y))) xs ≡ xs) × (among R k xs ≡ false)
  none_later k x [] here h = (refl, refl)
  none_later k x (y ∷ ys) here h =
      let apart : is_eq (R k y) ≡ false = ap is_eq (o.congr k x y here ∙ h.0) in
      let rest = none_later k x ys here h.1 in
      ((λ i. cond (not (apart i)) (y ∷ rest.0 i) (rest.0 i)), (λ i. apart i || rest.1 i))

  -- a list without one of its keys is one shorter
  pub length-without : (k : K) (xs : List K) → IsStrictlySortedBy R xs
      → length xs ≡ length (filter (λ x. not (is_eq (R k x))) xs) + one_if (among R k xs)
  unfolding IsStrictlySortedBy
  length-without k [] h = refl
  length-without k (x ∷ xs) h =
      let rest : length xs ≡ length (filter (λ x. not (is_eq (R k x))) xs) + one_if (among R k xs) =
      length-without k xs h.1 in
      elim (is_eq (R k x)) as (λ b. is_eq (R k x) ≡ b
      → length (x ∷ xs) ≡ length (cond (not b) (x ∷ filter (λ x. not (is_eq (R k x))) xs)
      (filter (λ x. not (is_eq (R k x))) xs)) + one_if (b || among R k xs)) [
        | true ↦ λ here. let same = ap length (none_later k x xs (equal_from _ here) h.0).0
            in omega arith
        | false ↦ λ other. omega arith
      ] refl

abbrev key_cmp : List ℕ → List ℕ → Ordering
key_cmp = slice_cmp nat_cmp

-- where only one key's rows differ, the keys that live differ by that key alone
pub keys-move : (rows others : Rows) (table : ℕ) (key : List ℕ) (t : ℕ) → AreInOrder rows
    → AreInOrder others → ((other : List ℕ) → same_key key other ≡ false
    → key_rows others table other ≡ key_rows rows table other)
    → length (live_keys others table t) + one_if (has_live (key_rows rows table key) t)
    ≡ length (live_keys rows table t) + one_if (has_live (key_rows others table key) t)
keys-move rows others table key t g h alike =
    let other : List ℕ → Bool = λ k. not (same_key key k) in
    let fewer = live_keys-sorted rows table t (sorted_from row_key_cmp rows g) in
    let more = live_keys-sorted others table t (sorted_from row_key_cmp others h) in
    let same : filter other (live_keys others table t) ≡ filter other (live_keys rows table t) =
    same_members key_cmp nat_list_cmp_total exact_bytes _ _
    (IsStrictlySortedBy-filter key_cmp other (live_keys others table t) more)
    (IsStrictlySortedBy-filter key_cmp other (live_keys rows table t) fewer)
    (λ q. among-filter key_cmp nat_list_cmp_total exact_bytes q other (live_keys others table t)
    ∙ apart (same_key key q) (λ e. found others q ∙ ap (λ rs. has_live rs t) (alike q e)
    ∙ sym (found rows q))
    ∙ sym (among-filter key_cmp nat_list_cmp_total exact_bytes q other (live_keys rows table t))) in
    let here = length-without key_cmp nat_list_cmp_total key (live_keys rows table t) fewer in
    let there = length-without key_cmp nat_list_cmp_total key (live_keys others table t) more in
    let lengths = ap length same in
    let in_rows = ap one_if (found rows key) in
    let in_others = ap one_if (found others key) in
    omega arith
  where
    found : (rs : Rows) (q : List ℕ) → among key_cmp q (live_keys rs table t)
        ≡ has_live (key_rows rs table q) t
    found rs q = live_keys-exact rs table t q ∙ live-rows rs table q t

    both_no : (a b : Bool) → (a && false) ≡ (b && false)
    both_no true true = refl
    both_no true false = refl
    both_no false true = refl
    both_no false false = refl

    apart : (is_key : Bool) {a b : Bool} → (is_key ≡ false → a ≡ b)
        → (a && not is_key) ≡ (b && not is_key)
    apart true {a} {b} e = both_no a b
    apart false e = ap (λ c. c && true) (e refl)

-- rows that live are some exactly where there are any
pub live-if-any : (rows : Rows) (t : ℕ) → AreLiveAt t rows
    → has_live rows t ≡ not (length rows == 0)
live-if-any [] t h = refl
live-if-any (row ∷ rows) t h = ap (λ b. b || has_live rows t) h.0
    ∙ sym (ap not (is_some_length (length rows)))
  where
    is_some_length : (n : ℕ) → (suc n == 0) ≡ false
    is_some_length n = grind (arith, nat_tests)
