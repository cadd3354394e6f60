-- Sums over entries in order, as entries come and go.
use Rattle.std.proofs.Common.{◌≡◌, ℕ, ◌+◌, Bool, true, false, cond, not, List, [], ◌∷◌, None, Some}
use Rattle.std.proofs.Common.{refl, sym, ap, ◌∙◌, arith}
use Rattle.std.proofs.lemmas.List.Filters.{sum_by-filter_both}
use Rattle.std.proofs.lemmas.List.Sums.{sum_by-cons}
use Rattle.std.specs.BTreeMap.{insert_entry, is_at}
use Rattle.std.specs.List.{AllByRecursion, filter, sum_by}
use Rattle.std.specs.List.Sorted.{IsStrictlySortedBy}
use Rattle.std.specs.Map.{keys_of, lookup, remove_entry}
use Rattle.std.specs.Option.{option_map_or}
use Rattle.std.specs.Ordering.{is_eq, match_ordering}
use Rattle.std.specs.declared.cmp.Ordering.TheVariants.{Less, Equal, Greater}
use Rattle.agg_types.specs.RowKey.{row_key_cmp}
use Rattle.agg_types.specs.declared.row_key.RowKey.{RowKey}
use Rattle.fleet_model.proofs.Entries.{equal_from}
use Rattle.fleet_model.proofs.InForce.{row_key_cmp_exact, row_key_cmp_total}
use Rattle.fleet_model.specs.Laws.{worth_at}
use Rattle.fleet_model.specs.declared.arrival.Arrival.{Arrival}

abbrev Rows : Type 0
Rows = List (RowKey × Arrival)

not_found : (place x : RowKey) (rows : Rows) → row_key_cmp place x ≡ Less
    → AllByRecursion (λ y. row_key_cmp x y ≡ Less) (keys_of rows)
    → lookup (is_at (row_key_cmp place)) rows ≡ None
not_found place x [] less h = refl
not_found place x (e ∷ es) less h =
    ap (λ o. cond (is_eq o) (Some e.1) (lookup (is_at (row_key_cmp place)) es))
    (row_key_cmp_total.trans place x e.0 less h.0) ∙ not_found place x es less h.1

-- a sum after a row came, in place of an older one or not
pub sum-insert : (f : RowKey × Arrival → ℕ) (rows : Rows) (place : RowKey) (row : Arrival)
    → IsStrictlySortedBy row_key_cmp (keys_of rows) → sum_by f (insert_entry row_key_cmp rows place
    row) + worth_at f rows place ≡ sum_by f rows + f (place, row)
unfolding IsStrictlySortedBy
sum-insert f [] place row h = let one = sum_by-cons f (place, row) [] in omega arith
sum-insert f (e ∷ es) place row h =
    let whole = sum_by-cons f e es in
    elim (row_key_cmp place e.0) as (λ o. row_key_cmp place e.0 ≡ o
    → sum_by f (match_ordering o ((place, row) ∷ e ∷ es) ((e.0, row) ∷ es)
    (e ∷ insert_entry row_key_cmp es place row)) + option_map_or (λ old. f (place, old))
    (cond (is_eq o) (Some e.1) (lookup (is_at (row_key_cmp place)) es)) 0 ≡ sum_by f (e ∷ es) + f
    (place, row)) [
      | Less ↦ λ less.
          let front = sum_by-cons f (place, row) (e ∷ es) in
          let none : option_map_or (λ old. f (place, old)) (lookup (is_at (row_key_cmp place)) es) 0
          ≡ 0 = ap (λ o. option_map_or (λ old. f (place, old)) o 0)
          (not_found place e.0 es less h.0) in
          omega arith
      | Equal ↦ λ same.
          let key : place ≡ e.0 = row_key_cmp_exact place e.0 same in
          let front : sum_by f ((e.0, row) ∷ es) ≡ f (place, row) + sum_by f es =
          sum_by-cons f (e.0, row) es ∙ ap (λ k. f (k, row) + sum_by f es) (sym key) in
          let old : f (place, e.1) ≡ f e = ap (λ k. f (k, e.1)) key in
          omega arith
      | Greater ↦ λ more.
          let rest = sum-insert f es place row h.1 in
          let front = sum_by-cons f e (insert_entry row_key_cmp es place row) in
          omega arith
    ] refl

-- a sum after the row of a place went, if there was one
pub sum-remove : (f : RowKey × Arrival → ℕ) (rows : Rows) (place : RowKey)
    → sum_by f (remove_entry (is_at (row_key_cmp place)) rows) + worth_at f rows place
    ≡ sum_by f rows
sum-remove f [] place = refl
sum-remove f (e ∷ es) place =
    let whole = sum_by-cons f e es in
    let rest = sum-remove f es place in
    elim (is_eq (row_key_cmp place e.0)) as (λ b. is_eq (row_key_cmp place e.0) ≡ b
    → sum_by f (cond b es (e ∷ remove_entry (is_at (row_key_cmp place)) es)) + option_map_or
    (λ old. f (place, old)) (cond b (Some e.1) (lookup (is_at (row_key_cmp place)) es)) 0
    ≡ sum_by f (e ∷ es)) [
      | true ↦ λ same. let old : f (place, e.1) ≡ f e =
          ap (λ k. f (k, e.1)) (row_key_cmp_exact place e.0 (equal_from _ same)) in omega arith
      | false ↦ λ other. let front = sum_by-cons f e (remove_entry (is_at (row_key_cmp place)) es)
          in omega arith
    ] refl

-- what stays and what goes
pub sum-split : (f : RowKey × Arrival → ℕ) (p : RowKey × Arrival → Bool) (rows : Rows)
    → sum_by f (filter p rows) + sum_by f (filter (λ row. not (p row)) rows) ≡ sum_by f rows
sum-split f p rows = sum_by-filter_both p (λ row. not (p row)) (λ row. refl) f rows
