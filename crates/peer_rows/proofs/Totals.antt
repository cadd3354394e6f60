-- The most that the rows of a key are worth, as rows come and go.
use Rattle.std.proofs.Common.{◌≡◌, ℕ, ◌+◌, ◌≤◌, List, [], ◌∷◌, length, cond}
use Rattle.std.proofs.Common.{Bool, true, false, refl, sym, subst, arith}
use Rattle.std.specs.Prelude.{Some, None, MatchBool, slice_index}
use Rattle.std.proofs.lemmas.List.Sums.{sum_by-cons}
use Rattle.std.specs.declared.cmp.Ordering.{Ordering}
use Rattle.std.specs.declared.cmp.Ordering.TheVariants.{Less, Equal, Greater}
use Rattle.std.specs.Ordering.{match_ordering, is_eq, nat_cmp}
use Rattle.std.specs.Cmp.{nat_cmp_total}
use Rattle.std.specs.Map.{keys_of, lookup, remove_entry}
use Rattle.std.specs.BTreeMap.{insert_entry, is_at}
use Rattle.std.specs.List.Sorted.{IsStrictlySortedBy}
use Rattle.peer_rows.specs.Most.{AreAbove, AreMosts, AreRaised, most_at, most_in, most_of_row}
use Rattle.peer_rows.specs.declared.row.Row.{Row}
use Rattle.std.proofs.lemmas.Cmp.{tied_itself}
use Rattle.place_index.proofs.Sorted.{lookup_below, sorted_others}

pub most_cons : (col : ℕ) (r : ℕ × Row) (rows : List (ℕ × Row))
    → most_in col (r ∷ rows) ≡ most_at r.1.cells col + most_in col rows
most_cons col r rows = sum_by-cons (λ (r : ℕ × Row). most_at r.1.cells col) r rows

-- a row comes in the place of the one that its peer held
pub most-put : (col peer : ℕ) (rows : List (ℕ × Row)) (row : Row)
    → IsStrictlySortedBy nat_cmp (keys_of rows)
    → most_in col (insert_entry nat_cmp rows peer row)
    + most_of_row col (lookup (is_at (nat_cmp peer)) rows)
    ≡ most_in col rows + most_at row.cells col
most-put col peer [] row sorted = omega (arith, most_cons col (peer, row) [])
most-put col peer (r ∷ rows) row sorted =
    by (most-put col peer rows row (sorted_others nat_cmp r.0 rows sorted)) (nat_cmp peer r.0) refl
  where
    by : most_in col (insert_entry nat_cmp rows peer row)
        + most_of_row col (lookup (is_at (nat_cmp peer)) rows)
        ≡ most_in col rows + most_at row.cells col
        → (o : Ordering) → nat_cmp peer r.0 ≡ o
        → most_in col (match_ordering o ((peer, row) ∷ r ∷ rows) ((r.0, row) ∷ rows)
        (r ∷ insert_entry nat_cmp rows peer row))
        + most_of_row col (cond (is_eq o) (Some r.1) (lookup (is_at (nat_cmp peer)) rows))
        ≡ most_in col (r ∷ rows) + most_at row.cells col
    by more Less is =
        let whole = lookup_below nat_cmp nat_cmp_total peer r rows is sorted in
        let none : lookup (is_at (nat_cmp peer)) rows ≡ None = rw is at whole in
        rw none (omega (arith, most_cons col (peer, row) (r ∷ rows)))
    by more Equal is = omega (arith, most_cons col (r.0, row) rows, most_cons col r rows)
    by more Greater is = omega (
      arith,
      most_cons col r (insert_entry nat_cmp rows peer row),
      most_cons col r rows,
      more,
    )

-- the row of a peer goes
pub most-taken : (col peer : ℕ) (rows : List (ℕ × Row))
    → most_in col (remove_entry (is_at (nat_cmp peer)) rows)
    + most_of_row col (lookup (is_at (nat_cmp peer)) rows) ≡ most_in col rows
most-taken col peer [] = omega arith
most-taken col peer (r ∷ rows) = by (most-taken col peer rows) (nat_cmp peer r.0)
  where
    others : most_in col (remove_entry (is_at (nat_cmp peer)) rows)
        + most_of_row col (lookup (is_at (nat_cmp peer)) rows) ≡ most_in col rows
        → most_in col (r ∷ remove_entry (is_at (nat_cmp peer)) rows)
        + most_of_row col (lookup (is_at (nat_cmp peer)) rows) ≡ most_in col (r ∷ rows)
    others more = omega (
      arith,
      most_cons col r (remove_entry (is_at (nat_cmp peer)) rows),
      most_cons col r rows,
      more,
    )

    by : most_in col (remove_entry (is_at (nat_cmp peer)) rows)
        + most_of_row col (lookup (is_at (nat_cmp peer)) rows) ≡ most_in col rows
        → (o : Ordering)
        → most_in col (cond (is_eq o) rows (r ∷ remove_entry (is_at (nat_cmp peer)) rows))
        + most_of_row col (cond (is_eq o) (Some r.1) (lookup (is_at (nat_cmp peer)) rows))
        ≡ most_in col (r ∷ rows)
    by more Less = others more
    by more Equal = omega (arith, most_cons col r rows)
    by more Greater = others more

-- a row that was put is found
pub put_found : (peer : ℕ) (rows : List (ℕ × Row)) (row : Row)
    → lookup (is_at (nat_cmp peer)) (insert_entry nat_cmp rows peer row) ≡ Some row
put_found peer [] row = rw (tied_itself nat_cmp_total peer) refl
put_found peer (r ∷ rows) row = by (put_found peer rows row) (nat_cmp peer r.0) refl
  where
    by : lookup (is_at (nat_cmp peer)) (insert_entry nat_cmp rows peer row) ≡ Some row
        → (o : Ordering) → nat_cmp peer r.0 ≡ o
        → lookup (is_at (nat_cmp peer)) (match_ordering o ((peer, row) ∷ r ∷ rows)
        ((r.0, row) ∷ rows) (r ∷ insert_entry nat_cmp rows peer row)) ≡ Some row
    by more Less is = rw (tied_itself nat_cmp_total peer) refl
    by more Equal is = rw is refl
    by more Greater is = rw is more

module _ (peer : ℕ) (mosts mid new : List ℕ) (rows after : List (ℕ × Row)) where
  -- a row was put
  pub mosts-put : (row : Row) → IsStrictlySortedBy nat_cmp (keys_of rows) → AreMosts mosts rows
      → length mid ≤ length mosts
      → AreRaised (lookup (is_at (nat_cmp peer)) after) mosts mid (length mid)
      → length new ≤ length mid
      → AreRaised (lookup (is_at (nat_cmp peer)) rows) new mid (length new)
      → after ≡ insert_entry nat_cmp rows peer row → AreMosts new after
  mosts-put row sorted are fewer raised less lowered is =
      subst (AreMosts new) (sym is) (λ col within.
      let start = are col (omega (arith, fewer, less, within)) in
      let up : slice_index mid col ≡ slice_index mosts col + most_at row.cells col =
      rw (is, put_found peer rows row) at (raised col (omega (arith, less, within))) in
      let down = lowered col within in
      let put = most-put col peer rows row sorted in
      omega (arith, start, up, down, put))

  -- a row was exchanged for another, or none was found
  pub mosts-exchanged : (row back : Row) (found : Bool) → IsStrictlySortedBy nat_cmp (keys_of rows)
      → AreMosts mosts rows → length mid ≤ length mosts
      → AreRaised (Some row) mosts mid (length mid) → length new ≤ length mid
      → AreRaised (Some back) new mid (length new)
      → MatchBool found (after ≡ insert_entry nat_cmp rows peer row) (after ≡ rows)
      → MatchBool found (lookup (is_at (nat_cmp peer)) rows ≡ Some back) (back ≡ row)
      → AreMosts new after
  mosts-exchanged row back true sorted are fewer raised less lowered is came =
      subst (AreMosts new) (sym is) (λ col within.
      let start = are col (omega (arith, fewer, less, within)) in
      let up = raised col (omega (arith, less, within)) in
      let down = lowered col within in
      let put = rw came at (most-put col peer rows row sorted) in
      omega (arith, start, up, down, put))
  mosts-exchanged row back false sorted are fewer raised less lowered is came =
      subst (AreMosts new) (sym is) (λ col within.
      let start = are col (omega (arith, fewer, less, within)) in
      let up = raised col (omega (arith, less, within)) in
      let down = rw came at (lowered col within) in
      omega (arith, start, up, down))

  -- a row was taken, if there was one
  pub mosts-taken : AreMosts mosts rows → length new ≤ length mosts
      → AreRaised (lookup (is_at (nat_cmp peer)) rows) new mosts (length new)
      → after ≡ remove_entry (is_at (nat_cmp peer)) rows → AreMosts new after
  mosts-taken are less lowered is =
      subst (AreMosts new) (sym is) (λ col within.
      let start = are col (omega (arith, less, within)) in
      let down = lowered col within in
      let taken = most-taken col peer rows in
      omega (arith, start, down, taken))

-- ---- what is above the rows of a key is above some of them
pub above_all : (mosts : List ℕ) (rows : List (ℕ × Row)) → AreMosts mosts rows → AreAbove mosts rows
above_all mosts rows are = λ col within. let same = are col within in omega (arith, same)

pub above_rest : (mosts : List ℕ) (r : ℕ × Row) (rows : List (ℕ × Row)) → AreAbove mosts (r ∷ rows)
    → AreAbove mosts rows
above_rest mosts r rows above = λ col within.
    let whole = above col within in omega (arith, whole, most_cons col r rows)

pub above_none : (rows : List (ℕ × Row)) → AreAbove [] rows
above_none rows = λ col within. absurd (omega (arith, within))

pub most_one : (col peer : ℕ) (row : Row) → most_in col ((peer, row) ∷ []) ≡ most_at row.cells col
most_one col peer row = omega (arith, most_cons col (peer, row) [])
