-- Rows in pages: what is looked up, put in or taken out there, and a page that is parted.
use Rattle.std.proofs.Common.{◌≡◌, ◌≢◌, ℕ, zero, suc, ◌+◌, ◌*◌, ◌<◌, ◌≤◌, List, [], ◌∷◌, ◌++◌}
use Rattle.std.proofs.Common.{take, drop, cond, refl, sym, ap, subst, ◌∙◌, arith, get_or, set}
use Rattle.std.proofs.Common.{length}
use Rattle.std.specs.Prelude.{Option, Some, None, Bool, true, false, MatchBool, is_some}
use Rattle.std.specs.declared.cmp.Ordering.{Ordering}
use Rattle.std.specs.declared.cmp.Ordering.TheVariants.{Less, Equal, Greater}
use Rattle.std.specs.List.{AllByRecursion}
use Rattle.std.specs.List.Sorted.{IsStrictlySortedBy}
use Rattle.std.specs.Ordering.{match_ordering, is_eq, nat_cmp}
use Rattle.std.specs.Cmp.{nat_cmp_is, nat_cmp_total, ranked}
use Rattle.std.specs.Map.{keys_of, lookup, remove_entry}
use Rattle.std.specs.BTreeMap.{insert_entry, is_at}
use Rattle.std.proofs.lemmas.List.{append-nil, set-get_or}
use Rattle.std.proofs.lemmas.Map.{NonePasses}
use Rattle.peer_rows.specs.Pages.{AreBefore, AreByPeer, AreFrom, ArePages, IsPageOf, joined}
use Rattle.peer_rows.specs.Peers.{IsFound, IsGap}
use Rattle.peer_rows.specs.declared.row.Row.{Row}
use Rattle.peer_rows.proofs.Selecting.{lookup-append_left, lookup-append_right}
use Rattle.peer_rows.proofs.Selecting.{remove_entry-append_left, remove_entry-append_right}
use Rattle.place_index.proofs.Sorted.{AllAbove, AllAbove-append, AllBelow}
use Rattle.place_index.proofs.Sorted.{above_first, insert_entry-append_left}
use Rattle.place_index.proofs.Sorted.{insert_entry-append_right, sorted-cons, sorted-insert_entry}
use Rattle.place_index.proofs.Sorted.{lookup_below, sorted-remove_entry, sorted_others}

abbrev pub Rows : Type 0
Rows = List (ℕ × Row)

-- ---- peers from a number on, and peers before one
above_from : (peer first : ℕ) (rows : Rows) → peer < first → AreFrom first rows
    → AllAbove nat_cmp peer rows
above_from peer first [] less all = tt
above_from peer first (r ∷ rows) less all = (
  sym (nat_cmp_is peer r.0 Less (omega (arith, less, all.0))),
  above_from peer first rows less all.1,
)

below_before : (peer end : ℕ) (rows : Rows) → end ≤ peer → AreBefore end rows
    → AllBelow nat_cmp peer rows
below_before peer end [] le all = tt
below_before peer end (r ∷ rows) le all = (
  sym (nat_cmp_is peer r.0 Greater (omega (arith, le, all.0))),
  below_before peer end rows le all.1,
)

none_from : (peer first : ℕ) (rows : Rows) → peer < first → AreFrom first rows
    → NonePasses (is_at (nat_cmp peer)) rows
none_from peer first [] less all = tt
none_from peer first (r ∷ rows) less all = (
  ap is_eq (sym (nat_cmp_is peer r.0 Less (omega (arith, less, all.0)))),
  none_from peer first rows less all.1,
)

none_before : (peer end : ℕ) (rows : Rows) → end ≤ peer → AreBefore end rows
    → NonePasses (is_at (nat_cmp peer)) rows
none_before peer end [] le all = tt
none_before peer end (r ∷ rows) le all = (
  ap is_eq (sym (nat_cmp_is peer r.0 Greater (omega (arith, le, all.0)))),
  none_before peer end rows le all.1,
)

from_append : (first : ℕ) (xs ys : Rows) → AreFrom first xs → AreFrom first ys
    → AreFrom first (xs ++ ys)
from_append first [] ys all more = more
from_append first (x ∷ xs) ys all more = (all.0, from_append first xs ys all.1 more)

from_less : (first low : ℕ) (rows : Rows) → low ≤ first → AreFrom first rows → AreFrom low rows
from_less first low [] le all = tt
from_less first low (r ∷ rows) le all =
    (omega (arith, le, all.0), from_less first low rows le all.1)

from_left : (first : ℕ) (xs ys : Rows) → AreFrom first (xs ++ ys) → AreFrom first xs
from_left first [] ys all = tt
from_left first (x ∷ xs) ys all = (all.0, from_left first xs ys all.1)

sorted_left : (xs ys : Rows) → AreByPeer (xs ++ ys) → AreByPeer xs
unfolding IsStrictlySortedBy
sorted_left [] ys sorted = tt
sorted_left (x ∷ xs) ys sorted =
    sorted-cons nat_cmp x.0 xs (above_left x.0 xs ys (above_first nat_cmp x.0 (xs ++ ys) sorted))
    (sorted_left xs ys (sorted_others nat_cmp x.0 (xs ++ ys) sorted))
  where
    above_left : (k : ℕ) (some more : Rows) → AllAbove nat_cmp k (some ++ more)
        → AllAbove nat_cmp k some
    above_left k [] more all = tt
    above_left k (a ∷ some) more all = (all.0, above_left k some more all.1)

sorted_right : (xs ys : Rows) → AreByPeer (xs ++ ys) → AreByPeer ys
sorted_right [] ys sorted = sorted
sorted_right (x ∷ xs) ys sorted =
    sorted_right xs ys (sorted_others nat_cmp x.0 (xs ++ ys) sorted)

-- rows before a number, and rows from it on behind them
sorted_both : (end : ℕ) (xs ys : Rows) → AreByPeer xs → AreByPeer ys → AreBefore end xs
    → AreFrom end ys → AreByPeer (xs ++ ys)
sorted_both end [] ys sx sy before from = sy
sorted_both end (x ∷ xs) ys sx sy before from =
    sorted-cons nat_cmp x.0 (xs ++ ys)
    (AllAbove-append nat_cmp x.0 xs ys (above_first nat_cmp x.0 xs sx)
    (above_from x.0 end ys before.0 from))
    (sorted_both end xs ys (sorted_others nat_cmp x.0 xs sx) sy before.1 from)

-- ---- pages
pub joined_from : (first : ℕ) (ps : List Rows) → ArePages first ps → AreFrom first (joined ps)
joined_from first [] are = absurd are
joined_from first (p ∷ []) are = from_append first p [] are.0 tt
joined_from first (p ∷ q ∷ ps) are =
    from_append first p (joined (q ∷ ps)) are.0
    (from_less (first + 32) first (joined (q ∷ ps)) (omega arith)
    (joined_from (first + 32) (q ∷ ps) are.3))

pub joined_sorted : (first : ℕ) (ps : List Rows) → ArePages first ps → AreByPeer (joined ps)
joined_sorted first [] are = absurd are
joined_sorted first (p ∷ []) are = rw (append-nil p) are.1
joined_sorted first (p ∷ q ∷ ps) are =
    sorted_both (first + 32) p (joined (q ∷ ps)) are.1
    (joined_sorted (first + 32) (q ∷ ps) are.3) are.2
    (joined_from (first + 32) (q ∷ ps) are.3)

more_pages : (first : ℕ) (p : Rows) (ps : List Rows) → AreFrom first p → AreByPeer p
    → AreBefore (first + 32) p → ArePages (first + 32) ps → ArePages first (p ∷ ps)
more_pages first p [] from sorted before are = absurd are
more_pages first p (q ∷ ps) from sorted before are = (from, sorted, before, are)

pub some_page : (first : ℕ) (ps : List Rows) → ArePages first ps → 0 < length ps
some_page first [] are = absurd are
some_page first (p ∷ ps) are = omega arith

-- the number of a peer's page
pub is_page : (peer first at : ℕ) (ps : List Rows) → ArePages first ps → at < length ps
    → first + 32 * at ≤ peer → (suc at < length ps → peer < first + 32 * suc at)
    → IsPageOf peer first ps at
is_page peer first at [] are within low high = absurd are
is_page peer first zero (p ∷ []) are within low high = omega (arith, low)
is_page peer first (suc at) (p ∷ []) are within low high = absurd (omega (arith, within))
is_page peer first zero (p ∷ q ∷ ps) are within low high =
    (omega (arith, low), let h = high (omega arith) in omega (arith, h))
is_page peer first (suc at) (p ∷ q ∷ ps) are within low high = (
  omega (arith, low),
  is_page peer (first + 32) at (q ∷ ps) are.3 (omega (arith, within)) (omega (arith, low))
      (λ more. let h = high (omega (arith, more)) in omega (arith, h)),
)

module _ (peer : ℕ) where
  pub page_sorted : (first at : ℕ) (ps : List Rows) (d : Rows) → ArePages first ps
      → IsPageOf peer first ps at → AreByPeer (get_or ps at d)
  page_sorted first at [] d are page = absurd are
  page_sorted first zero (p ∷ []) d are page = are.1
  page_sorted first (suc at) (p ∷ []) d are page = absurd page
  page_sorted first zero (p ∷ q ∷ ps) d are page = are.1
  page_sorted first (suc at) (p ∷ q ∷ ps) d are page =
      page_sorted (first + 32) at (q ∷ ps) d are.3 page.1

  pub page_lookup : (first at : ℕ) (ps : List Rows) (d : Rows) → ArePages first ps
      → IsPageOf peer first ps at
      → lookup (is_at (nat_cmp peer)) (joined ps) ≡ lookup (is_at (nat_cmp peer)) (get_or ps at d)
  page_lookup first at [] d are page = absurd are
  page_lookup first zero (p ∷ []) d are page = ap (lookup (is_at (nat_cmp peer))) (append-nil p)
  page_lookup first (suc at) (p ∷ []) d are page = absurd page
  page_lookup first zero (p ∷ q ∷ ps) d are page =
      lookup-append_left (is_at (nat_cmp peer)) p (joined (q ∷ ps))
      (none_from peer (first + 32) (joined (q ∷ ps)) page.1
      (joined_from (first + 32) (q ∷ ps) are.3))
  page_lookup first (suc at) (p ∷ q ∷ ps) d are page =
      lookup-append_right (is_at (nat_cmp peer)) p (joined (q ∷ ps))
      (none_before peer (first + 32) p page.0 are.2)
      ∙ page_lookup (first + 32) at (q ∷ ps) d are.3 page.1

  pub page_put : (first at : ℕ) (ps : List Rows) (row : Row) (d : Rows) → ArePages first ps
      → IsPageOf peer first ps at
      → joined (set ps at (insert_entry nat_cmp (get_or ps at d) peer row))
      ≡ insert_entry nat_cmp (joined ps) peer row
  page_put first at [] row d are page = absurd are
  page_put first zero (p ∷ []) row d are page =
      append-nil (insert_entry nat_cmp p peer row)
      ∙ ap (λ (rows : Rows). insert_entry nat_cmp rows peer row) (sym (append-nil p))
  page_put first (suc at) (p ∷ []) row d are page = absurd page
  page_put first zero (p ∷ q ∷ ps) row d are page =
      sym (insert_entry-append_left nat_cmp p (joined (q ∷ ps)) peer row
      (above_from peer (first + 32) (joined (q ∷ ps)) page.1
      (joined_from (first + 32) (q ∷ ps) are.3)))
  page_put first (suc at) (p ∷ q ∷ ps) row d are page =
      ap (λ rest. p ++ rest) (page_put (first + 32) at (q ∷ ps) row d are.3 page.1)
      ∙ sym (insert_entry-append_right nat_cmp p (joined (q ∷ ps)) peer row
      (below_before peer (first + 32) p page.0 are.2))

  pub page_taken : (first at : ℕ) (ps : List Rows) (d : Rows) → ArePages first ps
      → IsPageOf peer first ps at
      → joined (set ps at (remove_entry (is_at (nat_cmp peer)) (get_or ps at d)))
      ≡ remove_entry (is_at (nat_cmp peer)) (joined ps)
  page_taken first at [] d are page = absurd are
  page_taken first zero (p ∷ []) d are page =
      append-nil (remove_entry (is_at (nat_cmp peer)) p)
      ∙ ap (remove_entry (is_at (nat_cmp peer))) (sym (append-nil p))
  page_taken first (suc at) (p ∷ []) d are page = absurd page
  page_taken first zero (p ∷ q ∷ ps) d are page =
      sym (remove_entry-append_left (is_at (nat_cmp peer)) p (joined (q ∷ ps))
      (none_from peer (first + 32) (joined (q ∷ ps)) page.1
      (joined_from (first + 32) (q ∷ ps) are.3)))
  page_taken first (suc at) (p ∷ q ∷ ps) d are page =
      ap (λ rest. p ++ rest) (page_taken (first + 32) at (q ∷ ps) d are.3 page.1)
      ∙ sym (remove_entry-append_right (is_at (nat_cmp peer)) p (joined (q ∷ ps))
      (none_before peer (first + 32) p page.0 are.2))

  -- peers that all rows' peers are like, and so is one more
  all_put : (P : ℕ → Type 0) (rows : Rows) (row : Row) → AllByRecursion P (keys_of rows) → P peer
      → AllByRecursion P (keys_of (insert_entry nat_cmp rows peer row))
  all_put P [] row all own = (own, tt)
  all_put P (r ∷ rows) row all own = by (all_put P rows row all.1 own) (nat_cmp peer r.0)
    where
      by : AllByRecursion P (keys_of (insert_entry nat_cmp rows peer row)) → (o : Ordering)
          → AllByRecursion P (keys_of (match_ordering o ((peer, row) ∷ r ∷ rows)
          ((r.0, row) ∷ rows) (r ∷ insert_entry nat_cmp rows peer row)))
      by rest Less = (own, all)
      by rest Equal = all
      by rest Greater = (all.0, rest)

  all_taken : (P : ℕ → Type 0) (rows : Rows) → AllByRecursion P (keys_of rows)
      → AllByRecursion P (keys_of (remove_entry (is_at (nat_cmp peer)) rows))
  all_taken P [] all = tt
  all_taken P (r ∷ rows) all = by (all_taken P rows all.1) (is_at (nat_cmp peer) r.0)
    where
      by : AllByRecursion P (keys_of (remove_entry (is_at (nat_cmp peer)) rows)) → (b : Bool)
          → AllByRecursion P (keys_of (cond b rows
          (r ∷ remove_entry (is_at (nat_cmp peer)) rows)))
      by rest true = all.1
      by rest false = (all.0, rest)

  pub pages_put : (first at : ℕ) (ps : List Rows) (row : Row) (d : Rows) → ArePages first ps
      → IsPageOf peer first ps at
      → ArePages first (set ps at (insert_entry nat_cmp (get_or ps at d) peer row))
  pages_put first at [] row d are page = absurd are
  pages_put first zero (p ∷ []) row d are page = (
    all_put (λ n. first ≤ n) p row are.0 page,
    sorted-insert_entry nat_cmp nat_cmp_total p peer row are.1,
  )
  pages_put first (suc at) (p ∷ []) row d are page = absurd page
  pages_put first zero (p ∷ q ∷ ps) row d are page = (
    all_put (λ n. first ≤ n) p row are.0 page.0,
    sorted-insert_entry nat_cmp nat_cmp_total p peer row are.1,
    all_put (λ n. n < first + 32) p row are.2 page.1,
    are.3,
  )
  pages_put first (suc at) (p ∷ q ∷ ps) row d are page =
      more_pages first p (set (q ∷ ps) at (insert_entry nat_cmp (get_or (q ∷ ps) at d) peer row))
      are.0 are.1 are.2 (pages_put (first + 32) at (q ∷ ps) row d are.3 page.1)

  pub pages_taken : (first at : ℕ) (ps : List Rows) (d : Rows) → ArePages first ps
      → IsPageOf peer first ps at
      → ArePages first (set ps at (remove_entry (is_at (nat_cmp peer)) (get_or ps at d)))
  pages_taken first at [] d are page = absurd are
  pages_taken first zero (p ∷ []) d are page = (
    all_taken (λ n. first ≤ n) p are.0,
    sorted-remove_entry nat_cmp (is_at (nat_cmp peer)) p are.1,
  )
  pages_taken first (suc at) (p ∷ []) d are page = absurd page
  pages_taken first zero (p ∷ q ∷ ps) d are page = (
    all_taken (λ n. first ≤ n) p are.0,
    sorted-remove_entry nat_cmp (is_at (nat_cmp peer)) p are.1,
    all_taken (λ n. n < first + 32) p are.2,
    are.3,
  )
  pages_taken first (suc at) (p ∷ q ∷ ps) d are page =
      more_pages first p
      (set (q ∷ ps) at (remove_entry (is_at (nat_cmp peer)) (get_or (q ∷ ps) at d)))
      are.0 are.1 are.2 (pages_taken (first + 32) at (q ∷ ps) d are.3 page.1)

-- ---- a page that is parted
pub found_before : (end : ℕ) (rows : Rows) (i : ℕ) → IsFound end rows i
    → AreBefore end (take i rows)
found_before end [] i found = absurd found
found_before end (r ∷ rows) zero found = tt
found_before end (r ∷ rows) (suc i) found = (found.0, found_before end rows i found.1)

above_are_from : (k end : ℕ) (rows : Rows) → end ≤ k → AllAbove nat_cmp k rows → AreFrom end rows
above_are_from k end [] le all = tt
above_are_from k end (r ∷ rows) le all = (
  let less = ranked k r.0 Less (sym all.0) in omega (arith, le, less),
  above_are_from k end rows le all.1,
)

pub found_from : (end : ℕ) (rows : Rows) (i : ℕ) → AreByPeer rows → IsFound end rows i
    → AreFrom end (drop i rows)
found_from end [] i sorted found = absurd found
found_from end (r ∷ rows) zero sorted found = (
  omega (arith, found),
  above_are_from r.0 end rows (omega (arith, found)) (above_first nat_cmp r.0 rows sorted),
)
found_from end (r ∷ rows) (suc i) sorted found =
    found_from end rows i (sorted_others nat_cmp r.0 rows sorted) found.1

pub gap_before : (end : ℕ) (rows : Rows) (i : ℕ) → IsGap end rows i → AreBefore end (take i rows)
gap_before end [] zero gap = tt
gap_before end [] (suc i) gap = absurd gap
gap_before end (r ∷ rows) zero gap = tt
gap_before end (r ∷ rows) (suc i) gap = (gap.0, gap_before end rows i gap.1)

pub gap_from : (end : ℕ) (rows : Rows) (i : ℕ) → AreByPeer rows → IsGap end rows i
    → AreFrom end (drop i rows)
gap_from end [] zero sorted gap = tt
gap_from end [] (suc i) sorted gap = absurd gap
gap_from end (r ∷ rows) zero sorted gap = (
  omega (arith, gap),
  above_are_from r.0 end rows (omega (arith, gap)) (above_first nat_cmp r.0 rows sorted),
)
gap_from end (r ∷ rows) (suc i) sorted gap =
    gap_from end rows i (sorted_others nat_cmp r.0 rows sorted) gap.1

-- the last page is parted in two
pub parted_pages : (first : ℕ) (ps : List Rows) (a b : Rows)
    → ArePages first (ps ++ (a ++ b) ∷ []) → AreBefore (first + 32 * (length ps + 1)) a
    → AreFrom (first + 32 * (length ps + 1)) b → ArePages first (ps ++ a ∷ b ∷ [])
parted_pages first [] a b are before from = (
  from_left first a b are.0,
  sorted_left a b are.1,
  subst (λ (end : ℕ). AreBefore end a) one before,
  (subst (λ (end : ℕ). AreFrom end b) one from, sorted_right a b are.1),
)
  where
    one : first + 32 * (0 + 1) ≡ first + 32
    one = omega arith
parted_pages first (p ∷ []) a b are before from = (
  are.0,
  are.1,
  are.2,
  parted_pages (first + 32) [] a b are.3
      (subst (λ (end : ℕ). AreBefore end a) two before)
      (subst (λ (end : ℕ). AreFrom end b) two from),
)
  where
    two : first + 32 * (1 + 1) ≡ first + 32 + 32 * (0 + 1)
    two = omega arith
parted_pages first (p ∷ q ∷ ps) a b are before from = (
  are.0,
  are.1,
  are.2,
  parted_pages (first + 32) (q ∷ ps) a b are.3
      (subst (λ (end : ℕ). AreBefore end a) next before)
      (subst (λ (end : ℕ). AreFrom end b) next from),
)
  where
    next : first + 32 * (length (p ∷ q ∷ ps) + 1) ≡ first + 32 + 32 * (length (q ∷ ps) + 1)
    next = omega arith

pub parted_joined : (ps : List Rows) (a b : Rows)
    → joined (ps ++ a ∷ b ∷ []) ≡ joined (ps ++ (a ++ b) ∷ [])
parted_joined [] a b = assoc a
  where
    assoc : (xs : Rows) → xs ++ (b ++ []) ≡ (xs ++ b) ++ []
    assoc [] = refl
    assoc (x ∷ xs) = ap (λ rest. x ∷ rest) (assoc xs)
parted_joined (p ∷ ps) a b = ap (λ rest. p ++ rest) (parted_joined ps a b)

-- one page after another at the end
pub two_behind : (ps : List Rows) (a b : Rows) → (ps ++ a ∷ []) ++ b ∷ [] ≡ ps ++ a ∷ b ∷ []
two_behind [] a b = refl
two_behind (p ∷ ps) a b = ap (λ rest. p ∷ rest) (two_behind ps a b)

pub length_behind : (ps : List Rows) (p : Rows) → length (ps ++ p ∷ []) ≡ length ps + 1
length_behind [] p = refl
length_behind (q ∷ ps) p = let rest = length_behind ps p in omega (arith, rest)

-- the last page is sorted
pub last_sorted : (first : ℕ) (ps : List Rows) (p : Rows) → ArePages first (ps ++ p ∷ [])
    → AreByPeer p
last_sorted first [] p are = are.1
last_sorted first (s ∷ []) p are = last_sorted (first + 32) [] p are.3
last_sorted first (s ∷ q ∷ ps) p are = last_sorted (first + 32) (q ∷ ps) p are.3

-- ---- how many rows there are
pub length_put : (peer : ℕ) (rows : Rows) (row : Row) → AreByPeer rows
    → lookup (is_at (nat_cmp peer)) rows ≡ None
    → length (insert_entry nat_cmp rows peer row) ≡ length rows + 1
length_put peer [] row sorted none = refl
length_put peer (r ∷ rows) row sorted none =
    by (length_put peer rows row (sorted_others nat_cmp r.0 rows sorted)) (nat_cmp peer r.0) refl
  where
    some_none : {X : Type 0} (x : X) → Some x ≢ None
    some_none x e = cc

    by : (lookup (is_at (nat_cmp peer)) rows ≡ None
        → length (insert_entry nat_cmp rows peer row) ≡ length rows + 1)
        → (o : Ordering) → nat_cmp peer r.0 ≡ o
        → length (match_ordering o ((peer, row) ∷ r ∷ rows) ((r.0, row) ∷ rows)
        (r ∷ insert_entry nat_cmp rows peer row)) ≡ length (r ∷ rows) + 1
    by more Less is = omega arith
    by more Equal is = absurd (some_none r.1 (rw is at none))
    by more Greater is = let rest = more (rw is at none) in omega (arith, rest)

pub length_exchanged : (peer : ℕ) (rows : Rows) (row old : Row) → AreByPeer rows
    → lookup (is_at (nat_cmp peer)) rows ≡ Some old
    → length (insert_entry nat_cmp rows peer row) ≡ length rows
length_exchanged peer [] row old sorted some = cc
length_exchanged peer (r ∷ rows) row old sorted some =
    by (length_exchanged peer rows row old (sorted_others nat_cmp r.0 rows sorted))
    (nat_cmp peer r.0) refl
  where
    by : (lookup (is_at (nat_cmp peer)) rows ≡ Some old
        → length (insert_entry nat_cmp rows peer row) ≡ length rows)
        → (o : Ordering) → nat_cmp peer r.0 ≡ o
        → length (match_ordering o ((peer, row) ∷ r ∷ rows) ((r.0, row) ∷ rows)
        (r ∷ insert_entry nat_cmp rows peer row)) ≡ length (r ∷ rows)
    by more Less is =
        let none = lookup_below nat_cmp nat_cmp_total peer r rows is sorted in
        let wrong : None ≡ Some old = sym none ∙ some in cc
    by more Equal is = refl
    by more Greater is = let rest = more (rw is at some) in omega (arith, rest)

-- ---- a page in its place
module _ (peer at : ℕ) (ps : List Rows) (d new : Rows) (are : ArePages 0 ps)
    (page : IsPageOf peer 0 ps at) (is : d ≡ get_or ps at d) where
  pub own_sorted : AreByPeer d
  own_sorted = subst AreByPeer (sym is) (page_sorted peer 0 at ps d are page)

  pub own_lookup : lookup (is_at (nat_cmp peer)) d ≡ lookup (is_at (nat_cmp peer)) (joined ps)
  own_lookup = ap (λ (rows : Rows). lookup (is_at (nat_cmp peer)) rows) is
      ∙ sym (page_lookup peer 0 at ps d are page)

  pub own_put : (row : Row) → new ≡ insert_entry nat_cmp d peer row
      → joined (set ps at new) ≡ insert_entry nat_cmp (joined ps) peer row
  own_put row after = ap (λ (rows : Rows). joined (set ps at rows))
      (after ∙ ap (λ (rows : Rows). insert_entry nat_cmp rows peer row) is)
      ∙ page_put peer 0 at ps row d are page

  pub own_pages_put : (row : Row) → new ≡ insert_entry nat_cmp d peer row
      → ArePages 0 (set ps at new)
  own_pages_put row after =
      subst (λ (rows : Rows). ArePages 0 (set ps at rows))
      (sym (after ∙ ap (λ (rows : Rows). insert_entry nat_cmp rows peer row) is))
      (pages_put peer 0 at ps row d are page)

  pub own_same : new ≡ d → set ps at new ≡ ps
  own_same same = ap (λ (rows : Rows). set ps at rows) (same ∙ is) ∙ set-get_or ps at d

  pub own_taken : new ≡ remove_entry (is_at (nat_cmp peer)) d
      → joined (set ps at new) ≡ remove_entry (is_at (nat_cmp peer)) (joined ps)
  own_taken after = ap (λ (rows : Rows). joined (set ps at rows))
      (after ∙ ap (λ (rows : Rows). remove_entry (is_at (nat_cmp peer)) rows) is)
      ∙ page_taken peer 0 at ps d are page

  pub own_pages_taken : new ≡ remove_entry (is_at (nat_cmp peer)) d → ArePages 0 (set ps at new)
  own_pages_taken after =
      subst (λ (rows : Rows). ArePages 0 (set ps at rows))
      (sym (after ∙ ap (λ (rows : Rows). remove_entry (is_at (nat_cmp peer)) rows) is))
      (pages_taken peer 0 at ps d are page)

  -- a row was exchanged there, if it was found
  pub own_exchanged : (row : Row) (found : Bool)
      → MatchBool found (new ≡ insert_entry nat_cmp d peer row) (new ≡ d)
      → MatchBool found (joined (set ps at new) ≡ insert_entry nat_cmp (joined ps) peer row)
      (joined (set ps at new) ≡ joined ps)
  own_exchanged row true after = own_put row after
  own_exchanged row false after = ap joined (own_same after)

  pub own_stay : (len : ℕ) (row : Row) (found : Bool)
      → found ≡ is_some (lookup (is_at (nat_cmp peer)) d)
      → MatchBool found (new ≡ insert_entry nat_cmp d peer row) (new ≡ d)
      → len ≡ length (joined ps)
      → ArePages 0 (set ps at new) × (len ≡ length (joined (set ps at new)))
  own_stay len row true held after is_len = (
    own_pages_put row after,
    is_len ∙ sym (ap (λ (rows : Rows). length rows) (own_put row after)
        ∙ same_length (lookup (is_at (nat_cmp peer)) (joined ps)) refl
        (held ∙ ap (λ (o : Option Row). is_some o) own_lookup)),
  )
    where
      same_length : (o : Option Row) → lookup (is_at (nat_cmp peer)) (joined ps) ≡ o
          → true ≡ is_some (lookup (is_at (nat_cmp peer)) (joined ps))
          → length (insert_entry nat_cmp (joined ps) peer row) ≡ length (joined ps)
      same_length None none some = let wrong = rw none at some in cc
      same_length (Some old) here some =
          length_exchanged peer (joined ps) row old (joined_sorted 0 ps are) here
  own_stay len row false held after is_len = (
    subst (ArePages 0) (sym (own_same after)) are,
    is_len ∙ sym (ap (λ (pages : List Rows). length (joined pages)) (own_same after)),
  )
