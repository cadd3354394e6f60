-- Where a peer stands among the rows of a key, and what is looked up, put in or taken out there.
use Rattle.std.proofs.Common.{◌≡◌, ◌≢◌, ℕ, zero, suc, ◌<◌, ◌≤◌, List, [], ◌∷◌, ◌++◌, length}
use Rattle.std.proofs.Common.{take, drop, cond, Ok, Err, OnOk, OnErr, refl, sym, ap, subst, ◌∙◌}
use Rattle.std.proofs.Common.{arith, get_or, set, Bool, true, false}
use Rattle.std.specs.Prelude.{Option, Some, None, Result, MatchBool, MatchResult}
use Rattle.std.specs.declared.cmp.Ordering.{Ordering}
use Rattle.std.specs.declared.cmp.Ordering.TheVariants.{Less, Equal, Greater}
use Rattle.std.specs.List.{AllByRecursion, HoldsAt}
use Rattle.std.specs.Ordering.{match_ordering, is_eq, nat_cmp, ordering_index}
use Rattle.std.specs.Cmp.{nat_cmp_is, nat_cmp_total, ranked}
use Rattle.std.specs.Map.{keys_of, lookup, remove_entry}
use Rattle.std.specs.BTreeMap.{insert_entry, is_at}
use Rattle.std.specs.List.Sorted.{IsBinarySearchResult, IsNonDecreasingBy, IsPartitionPoint}
use Rattle.std.specs.List.Sorted.{IsSearchInRange, IsStrictlySortedBy}
use Rattle.std.proofs.lemmas.Bool.Decides.{nat_tests}
use Rattle.std.proofs.lemmas.Option.{slice_get-get_or}
use Rattle.agg_types.specs.declared.no_memory.NoMemory.{NoMemory}
use Rattle.peer_rows.specs.declared.row.Row.{Row}
use Rattle.peer_rows.specs.Peers.{IsFound, IsGap, ArePeers}
use Rattle.place_index.proofs.Sorted.{sorted_one, sorted_others, lookup_below, sorted-insert_entry}
use Rattle.place_index.proofs.Sorted.{sorted-remove_entry}

above : (peer p : ℕ) → p < peer → nat_cmp peer p ≡ Greater
above peer p less = sym (nat_cmp_is peer p Greater less)

same : (peer p : ℕ) → p ≡ peer → nat_cmp peer p ≡ Equal
same peer p is = sym (nat_cmp_is peer p Equal (sym is))

below : (peer p : ℕ) → peer < p → nat_cmp peer p ≡ Less
below peer p less = sym (nat_cmp_is peer p Less less)

module _ (peer : ℕ) where
  pub found_in : (rows : List (ℕ × Row)) (i : ℕ) → IsFound peer rows i → i < length rows
  found_in [] i found = absurd found
  found_in (r ∷ rows) zero found = omega arith
  found_in (r ∷ rows) (suc i) found = omega (arith, found_in rows i found.1)

  pub found_value : (rows : List (ℕ × Row)) (i : ℕ) (d : ℕ × Row) → IsFound peer rows i
      → lookup (is_at (nat_cmp peer)) rows ≡ Some (get_or rows i d).1
  found_value [] i d found = absurd found
  found_value (r ∷ rows) zero d found = rw (same peer r.0 found) refl
  found_value (r ∷ rows) (suc i) d found =
      rw (above peer r.0 found.0) (found_value rows i d found.1)

  pub found_key : (rows : List (ℕ × Row)) (i : ℕ) (d : ℕ × Row) → IsFound peer rows i
      → (get_or rows i d).0 ≡ peer
  found_key [] i d found = absurd found
  found_key (r ∷ rows) zero d found = found
  found_key (r ∷ rows) (suc i) d found = found_key rows i d found.1

  pub found_put : (rows : List (ℕ × Row)) (i : ℕ) (row : Row) → IsFound peer rows i
      → insert_entry nat_cmp rows peer row ≡ set rows i (peer, row)
  found_put [] i row found = absurd found
  found_put (r ∷ rows) zero row found = rw (same peer r.0 found) (ap (λ p. (p, row) ∷ rows) found)
  found_put (r ∷ rows) (suc i) row found =
      rw (above peer r.0 found.0) (ap (λ rs. r ∷ rs) (found_put rows i row found.1))

  pub found_taken : (rows : List (ℕ × Row)) (i : ℕ) → IsFound peer rows i
      → remove_entry (is_at (nat_cmp peer)) rows ≡ take i rows ++ drop (suc i) rows
  found_taken [] i found = absurd found
  found_taken (r ∷ rows) zero found = rw (same peer r.0 found) refl
  found_taken (r ∷ rows) (suc i) found =
      rw (above peer r.0 found.0) (ap (λ rs. r ∷ rs) (found_taken rows i found.1))

  pub gap_in : (rows : List (ℕ × Row)) (i : ℕ) → IsGap peer rows i → i ≤ length rows
  gap_in [] zero gap = omega arith
  gap_in [] (suc i) gap = absurd gap
  gap_in (r ∷ rows) zero gap = omega arith
  gap_in (r ∷ rows) (suc i) gap = omega (arith, gap_in rows i gap.1)

  pub gap_none : (rows : List (ℕ × Row)) (i : ℕ) → IsStrictlySortedBy nat_cmp (keys_of rows)
      → IsGap peer rows i → lookup (is_at (nat_cmp peer)) rows ≡ None
  gap_none [] i s gap = refl
  gap_none (r ∷ rows) zero s gap =
      lookup_below nat_cmp nat_cmp_total peer r rows (below peer r.0 gap) s
  gap_none (r ∷ rows) (suc i) s gap =
      rw (above peer r.0 gap.0) (gap_none rows i (sorted_others nat_cmp r.0 rows s) gap.1)

  pub gap_put : (rows : List (ℕ × Row)) (i : ℕ) (row : Row) → IsGap peer rows i
      → insert_entry nat_cmp rows peer row ≡ take i rows ++ (peer, row) ∷ drop i rows
  gap_put [] zero row gap = refl
  gap_put [] (suc i) row gap = absurd gap
  gap_put (r ∷ rows) zero row gap = rw (below peer r.0 gap) refl
  gap_put (r ∷ rows) (suc i) row gap =
      rw (above peer r.0 gap.0) (ap (λ rs. r ∷ rs) (gap_put rows i row gap.1))

  -- one more or one less keeps the rows by peer
  pub are-put : (rows new : List (ℕ × Row)) (row : Row) → ArePeers rows
      → new ≡ insert_entry nat_cmp rows peer row → ArePeers new
  are-put rows new row are is = rw is (record {
    some = some rows;
    sorted = sorted-insert_entry nat_cmp nat_cmp_total rows peer row are.sorted;
  })
    where
      some : (rs : List (ℕ × Row)) → insert_entry nat_cmp rs peer row ≢ []
      some [] e = cc
      some (r ∷ rs) e = by (nat_cmp peer r.0) e
        where
          by : (o : Ordering) → match_ordering o ((peer, row) ∷ r ∷ rs) ((r.0, row) ∷ rs)
              (r ∷ insert_entry nat_cmp rs peer row) ≢ []
          by Less f = cc
          by Equal f = cc
          by Greater f = cc

  pub are-put_or_not : (rows new : List (ℕ × Row)) (row : Row) (r : Result (Option Row) NoMemory)
      → ArePeers rows → OnOk r (new ≡ insert_entry nat_cmp rows peer row) → OnErr r (new ≡ rows)
      → ArePeers new
  are-put_or_not rows new row (Ok old) are is not = are-put rows new row are is
  are-put_or_not rows new row (Err e) are is not = subst ArePeers (sym not) are

  pub are-exchanged : (rows new : List (ℕ × Row)) (row : Row) (found : Bool) → ArePeers rows
      → MatchBool found (new ≡ insert_entry nat_cmp rows peer row) (new ≡ rows) → ArePeers new
  are-exchanged rows new row true are is = are-put rows new row are is
  are-exchanged rows new row false are is = subst ArePeers (sym is) are

  pub are-taken : (rows new : List (ℕ × Row)) → ArePeers rows → keys_of rows ≢ peer ∷ []
      → new ≡ remove_entry (is_at (nat_cmp peer)) rows → ArePeers new
  are-taken rows new are several is = rw is (record {
    some = some rows several are.some;
    sorted = sorted-remove_entry nat_cmp (is_at (nat_cmp peer)) rows are.sorted;
  })
    where
      some : (rs : List (ℕ × Row)) → keys_of rs ≢ peer ∷ [] → rs ≢ []
          → remove_entry (is_at (nat_cmp peer)) rs ≢ []
      some [] more any e = any refl
      some (r ∷ rs) more any e = by (nat_cmp peer r.0) refl e
        where
          by : (q : Ordering) → nat_cmp peer r.0 ≡ q
              → cond (is_eq q) rs (r ∷ remove_entry (is_at (nat_cmp peer)) rs) ≢ []
          by Less is f = cc
          by Equal is f = more (rw f (ap (λ p. p ∷ []) (sym (ranked peer r.0 Equal (sym is)))))
          by Greater is f = cc

pub are_one : (peer : ℕ) (row : Row) → ArePeers ((peer, row) ∷ [])
are_one peer row = record { some = λ e. cc; sorted = sorted_one nat_cmp peer }

-- a search among rows by peer
module _ (peer : ℕ) where
  less_at : (k : ℕ) (rows : List (ℕ × Row)) (i : ℕ) (d : ℕ × Row)
      → AllByRecursion (λ y. nat_cmp k y ≡ Less) (keys_of rows) → i < length rows
      → k < (get_or rows i d).0
  less_at k [] i d all within = absurd (omega (arith, within))
  less_at k (r ∷ rows) zero d all within = ranked k r.0 Less (sym all.0)
  less_at k (r ∷ rows) (suc i) d all within =
      less_at k rows i d all.1 (omega (arith, within))

  keys_rise : (rows : List (ℕ × Row)) (i j : ℕ) (d : ℕ × Row)
      → IsStrictlySortedBy nat_cmp (keys_of rows) → i ≤ j → j < length rows
      → (get_or rows i d).0 ≤ (get_or rows j d).0
  unfolding IsStrictlySortedBy
  keys_rise [] i j d sorted le within = absurd (omega (arith, within))
  keys_rise (r ∷ rows) zero zero d sorted le within = omega arith
  keys_rise (r ∷ rows) zero (suc j) d sorted le within =
      let less = less_at r.0 rows j d sorted.0 (omega (arith, within)) in omega (arith, less)
  keys_rise (r ∷ rows) (suc i) zero d sorted le within = absurd (omega (arith, le))
  keys_rise (r ∷ rows) (suc i) (suc j) d sorted le within =
      keys_rise rows i j d sorted.1 (omega (arith, le)) (omega (arith, within))

  comparisons_rise : (rows : List (ℕ × Row)) → IsStrictlySortedBy nat_cmp (keys_of rows)
      → IsNonDecreasingBy (λ r. ordering_index (nat_cmp r.0 peer)) rows
  comparisons_rise rows sorted i j d le within =
      let keys = keys_rise rows i j d sorted le within in grind (arith, nat_tests, keys)

  found_from : (rows : List (ℕ × Row)) (i : ℕ) → IsStrictlySortedBy nat_cmp (keys_of rows)
      → i < length rows → HoldsAt (λ r. nat_cmp r.0 peer ≡ Equal) rows i → IsFound peer rows i
  unfolding IsStrictlySortedBy
  found_from [] i sorted within equal = absurd (omega (arith, within))
  found_from (r ∷ rows) zero sorted within equal = ranked r.0 peer Equal (sym (equal r))
  found_from (r ∷ rows) (suc i) sorted within equal =
      let less = less_at r.0 rows i r sorted.0 (omega (arith, within)) in
      let same = ranked (get_or rows i r).0 peer Equal (sym (equal r)) in (
        omega (arith, less, same),
        found_from rows i sorted.1 (omega (arith, within)) (λ d. equal d),
      )

  -- a row that stands at the number of its peer
  pub found_own : (rows : List (ℕ × Row)) (i : ℕ) (d : ℕ × Row)
      → IsStrictlySortedBy nat_cmp (keys_of rows) → i < length rows
      → (get_or rows i d).0 ≡ peer → IsFound peer rows i
  found_own rows i d sorted within own =
      found_from rows i sorted within (λ e.
      sym (nat_cmp_is (get_or rows i e).0 peer Equal
      (ap (λ r. r.0) (any_default rows i d e within) ∙ own)))
    where
      some_same : (x y : ℕ × Row) → Some x ≡ Some y → x ≡ y
      some_same x y e = cc

      any_default : (rs : List (ℕ × Row)) (n : ℕ) (x y : ℕ × Row) → n < length rs
          → get_or rs n y ≡ get_or rs n x
      any_default rs n x y inside =
          some_same (get_or rs n y) (get_or rs n x)
          (sym (slice_get-get_or rs n y inside) ∙ slice_get-get_or rs n x inside)

  gap_from : (rows : List (ℕ × Row)) (i : ℕ) → i ≤ length rows
      → IsPartitionPoint (λ r. nat_cmp r.0 peer ≡ Less) (λ r. nat_cmp r.0 peer ≡ Greater) rows i
      → IsGap peer rows i
  gap_from [] zero within parted = tt
  gap_from [] (suc i) within parted = absurd (omega (arith, within))
  gap_from (r ∷ rows) zero within parted =
      ranked r.0 peer Greater (sym (parted.1 0 r (omega arith) (omega arith)))
  gap_from (r ∷ rows) (suc i) within parted = (
    ranked r.0 peer Less (sym (parted.0 0 r (omega arith) (omega arith))),
    gap_from rows i (omega (arith, within)) (
      λ j d low high. parted.0 (suc j) d (omega arith) (omega (arith, high)),
      λ j d low high. parted.1 (suc j) d (omega (arith, low)) (omega (arith, high)),
    ),
  )

  pub searched : (rows : List (ℕ × Row)) → IsStrictlySortedBy nat_cmp (keys_of rows)
      → (r : Result ℕ ℕ) → IsSearchInRange r (length rows)
      → IsBinarySearchResult (λ r. nat_cmp r.0 peer) rows r
      → MatchResult r (IsFound peer rows) (IsGap peer rows)
  searched rows sorted (Ok at) within equal = found_from rows at sorted within equal
  searched rows sorted (Err at) within parted =
      gap_from rows at within (parted (comparisons_rise rows sorted))
