-- What becomes of a table's rows where the rows of one key change.
use Rattle.std.proofs.Common.{◌≡◌, ℕ, ◌+◌, ◌≤◌, Bool, true, false, cond, ◌&&◌, List, [], ◌∷◌}
use Rattle.std.proofs.Common.{length, refl, sym, ◌∙◌, ap, subst, arith, length-append}
use Rattle.std.specs.Prelude.{Some, None, filter, ◌==◌}
use Rattle.std.specs.Option.{option_and_then}
use Rattle.std.specs.declared.cmp.Ordering.{Ordering}
use Rattle.std.specs.declared.cmp.Ordering.TheVariants.{Less, Equal, Greater}
use Rattle.std.specs.Ordering.{match_ordering, ordering_then, is_eq, nat_cmp}
use Rattle.std.specs.Cmp.{IsTotalOrder, nat_cmp_total, unsigned_ties}
use Rattle.std.specs.Cmp.Lexicographic.{slice_cmp, nat_list_cmp_total}
use Rattle.std.specs.Map.{keys_of, lookup, remove_entry, set_value}
use Rattle.std.specs.BTreeMap.{insert_entry, is_at}
use Rattle.std.specs.List.Sorted.{IsStrictlySortedBy}
use Rattle.std.proofs.lemmas.Map.{none_passes_from_lookup, lookup-none}
use Rattle.std.proofs.lemmas.Map.Lookups.{exact_bytes}
use Rattle.peer_rows.specs.declared.row.Row.{Row}
use Rattle.peer_rows.specs.Peers.{ArePeers}
use Rattle.peer_rows.specs.Spread.{part}
use Rattle.peer_rows.specs.Table.{spot, spot_cmp, rows_in, rows_of_peer, EachPeerOnce}
use Rattle.std.proofs.lemmas.Cmp.{tied_itself}
use Rattle.place_index.proofs.Sorted.{sorted_one, sorted_others, lookup_below}
use Rattle.peer_rows.proofs.Selecting.{PassesOnce, remove_entry-none, filter-append, filter-none}
use Rattle.peer_rows.proofs.Spreading.{PassesOnce-sorted, spread-none, lookup-spread}
use Rattle.peer_rows.proofs.Spreading.{remove_entry-spread, spread-remove_entry}
use Rattle.peer_rows.proofs.Spreading.{insert_entry-spread, insert_entry-spread_new}

abbrev pub Keys : Type 0
Keys = List (List ℕ × List (ℕ × Row))

-- whether a spot is one, by its two parts
at_splits : (key : List ℕ) (peer : ℕ) (k : List ℕ) (p : ℕ) → is_at (spot_cmp (key, peer)) (spot k p)
    ≡ (is_at (slice_cmp nat_cmp key) k && is_at (nat_cmp peer) p)
at_splits key peer k p = by (slice_cmp nat_cmp key k)
  where
    by : (o : Ordering) → is_eq (ordering_then o (nat_cmp peer p))
        ≡ (is_eq o && is_eq (nat_cmp peer p))
    by Less = refl
    by Equal = refl
    by Greater = refl

module _ (es : Keys) (key : List ℕ) (peer : ℕ) where
  pub one_key : IsStrictlySortedBy (slice_cmp nat_cmp) (keys_of es)
      → PassesOnce (is_at (slice_cmp nat_cmp key)) es
  one_key s = PassesOnce-sorted nat_list_cmp_total key (is_at (slice_cmp nat_cmp key))
      (λ j. refl) es s

  pub lookup_held : (rows : List (ℕ × Row)) → IsStrictlySortedBy (slice_cmp nat_cmp) (keys_of es)
      → lookup (is_at (slice_cmp nat_cmp key)) es ≡ Some rows
      → lookup (is_at (spot_cmp (key, peer))) (rows_in es) ≡ lookup (is_at (nat_cmp peer)) rows
  lookup_held rows s found = lookup-spread spot (is_at (slice_cmp nat_cmp key))
      (is_at (nat_cmp peer)) (is_at (spot_cmp (key, peer))) (at_splits key peer) es (one_key s)
      ∙ ap (λ o. option_and_then (λ rs. lookup (is_at (nat_cmp peer)) rs) o) found

  pub lookup_not_held : lookup (is_at (slice_cmp nat_cmp key)) es ≡ None
      → lookup (is_at (spot_cmp (key, peer))) (rows_in es) ≡ None
  lookup_not_held none = lookup-none (is_at (spot_cmp (key, peer))) (rows_in es)
      (spread-none spot (is_at (slice_cmp nat_cmp key)) (is_at (nat_cmp peer))
      (is_at (spot_cmp (key, peer))) (at_splits key peer) es
      (none_passes_from_lookup (is_at (slice_cmp nat_cmp key)) es none))

  pub take_not_held : lookup (is_at (slice_cmp nat_cmp key)) es ≡ None
      → remove_entry (is_at (spot_cmp (key, peer))) (rows_in es) ≡ rows_in es
  take_not_held none = remove_entry-none (is_at (spot_cmp (key, peer))) (rows_in es)
      (spread-none spot (is_at (slice_cmp nat_cmp key)) (is_at (nat_cmp peer))
      (is_at (spot_cmp (key, peer))) (at_splits key peer) es
      (none_passes_from_lookup (is_at (slice_cmp nat_cmp key)) es none))

  pub put_held : (rows new : List (ℕ × Row)) (row : Row)
      → IsStrictlySortedBy (slice_cmp nat_cmp) (keys_of es)
      → lookup (is_at (slice_cmp nat_cmp key)) es ≡ Some rows
      → new ≡ insert_entry nat_cmp rows peer row
      → rows_in (set_value (is_at (slice_cmp nat_cmp key)) es new) ≡ insert_entry spot_cmp
      (rows_in es) (key, peer) row
  put_held rows new row s found is =
      rw is (insert_entry-spread spot (slice_cmp nat_cmp) nat_cmp spot_cmp (λ k j p q. refl)
      nat_list_cmp_total exact_bytes es key peer row rows s found)

  pub put_new : (row : Row) → IsStrictlySortedBy (slice_cmp nat_cmp) (keys_of es)
      → lookup (is_at (slice_cmp nat_cmp key)) es ≡ None
      → rows_in (insert_entry (slice_cmp nat_cmp) es key ((peer, row) ∷ [])) ≡ insert_entry spot_cmp
      (rows_in es) (key, peer) row
  put_new row s none = insert_entry-spread_new spot (slice_cmp nat_cmp) nat_cmp spot_cmp
      (λ k j p q. refl) nat_list_cmp_total exact_bytes es key peer row s none

  pub take_held : (rows new : List (ℕ × Row)) → IsStrictlySortedBy (slice_cmp nat_cmp) (keys_of es)
      → lookup (is_at (slice_cmp nat_cmp key)) es ≡ Some rows
      → new ≡ remove_entry (is_at (nat_cmp peer)) rows
      → rows_in (set_value (is_at (slice_cmp nat_cmp key)) es new)
      ≡ remove_entry (is_at (spot_cmp (key, peer))) (rows_in es)
  take_held rows new s found is =
      rw is (remove_entry-spread spot (is_at (slice_cmp nat_cmp key)) (is_at (nat_cmp peer))
      (is_at (spot_cmp (key, peer))) (at_splits key peer) es rows (one_key s) found)

  pub take_last : (rows : List (ℕ × Row)) → IsStrictlySortedBy (slice_cmp nat_cmp) (keys_of es)
      → lookup (is_at (slice_cmp nat_cmp key)) es ≡ Some rows → keys_of rows ≡ peer ∷ []
      → rows_in (remove_entry (is_at (slice_cmp nat_cmp key)) es)
      ≡ remove_entry (is_at (spot_cmp (key, peer))) (rows_in es)
  take_last rows s found last = spread-remove_entry spot (is_at (slice_cmp nat_cmp key)) es
      ∙ take_held rows [] s found (sym (emptied rows last))
    where
      emptied : (rs : List (ℕ × Row)) → keys_of rs ≡ peer ∷ []
          → remove_entry (is_at (nat_cmp peer)) rs ≡ []
      emptied [] e = cc
      emptied (r ∷ []) e = let same : r.0 ≡ peer = cc in
          rw (same, tied_itself nat_cmp_total peer) refl
      emptied (r ∷ q ∷ rs) e = cc

-- ---- each peer once at a key
pub once-set_value : (test : List ℕ → Bool) (es : Keys) (rows : List (ℕ × Row)) → EachPeerOnce es
    → ArePeers rows → EachPeerOnce (set_value test es rows)
once-set_value test [] rows f s = tt
once-set_value test (e ∷ es) rows f s = by (once-set_value test es rows f.1 s) (test e.0)
  where
    by : EachPeerOnce (set_value test es rows) → (b : Bool)
        → EachPeerOnce (cond b ((e.0, rows) ∷ es) (e ∷ set_value test es rows))
    by more true = (s, f.1)
    by more false = (f.0, more)

pub once-remove_entry : (test : List ℕ → Bool) (es : Keys) → EachPeerOnce es
    → EachPeerOnce (remove_entry test es)
once-remove_entry test [] f = tt
once-remove_entry test (e ∷ es) f = by (once-remove_entry test es f.1) (test e.0)
  where
    by : EachPeerOnce (remove_entry test es) → (b : Bool)
        → EachPeerOnce (cond b es (e ∷ remove_entry test es))
    by more true = f.1
    by more false = (f.0, more)

one_row : (peer : ℕ) (row : Row) → ArePeers ((peer, row) ∷ [])
one_row peer row = record { some = λ none. cc; sorted = sorted_one nat_cmp peer }

pub once-insert_entry : (es : Keys) (key : List ℕ) (peer : ℕ) (row : Row) → EachPeerOnce es
    → EachPeerOnce (insert_entry (slice_cmp nat_cmp) es key ((peer, row) ∷ []))
once-insert_entry [] key peer row f = (one_row peer row, tt)
once-insert_entry (e ∷ es) key peer row f =
    by (once-insert_entry es key peer row f.1) (slice_cmp nat_cmp key e.0)
  where
    by : EachPeerOnce (insert_entry (slice_cmp nat_cmp) es key ((peer, row) ∷ [])) → (o : Ordering)
        → EachPeerOnce (match_ordering o ((key, (peer, row) ∷ []) ∷ e ∷ es)
        ((e.0, (peer, row) ∷ []) ∷ es) (e ∷ insert_entry (slice_cmp nat_cmp) es key
        ((peer, row) ∷ [])))
    by more Less = (one_row peer row, f)
    by more Equal = (one_row peer row, f.1)
    by more Greater = (f.0, more)

-- the rows of a found key: at least one, by peer
pub peers-lookup : (test : List ℕ → Bool) (es : Keys) (rows : List (ℕ × Row)) → EachPeerOnce es
    → lookup test es ≡ Some rows → ArePeers rows
peers-lookup test [] rows f found = cc
peers-lookup test (e ∷ es) rows f found = by (peers-lookup test es rows f.1) (test e.0) found
  where
    by : (lookup test es ≡ Some rows → ArePeers rows) → (b : Bool)
        → cond b (Some e.1) (lookup test es) ≡ Some rows → ArePeers rows
    by more true is = let same : e.1 ≡ rows = cc in
        subst (λ (rs : List (ℕ × Row)). ArePeers rs) same f.0
    by more false is = more is

pub once-lookup : (test : List ℕ → Bool) (es : Keys) (rows : List (ℕ × Row)) → EachPeerOnce es
    → lookup test es ≡ Some rows → IsStrictlySortedBy nat_cmp (keys_of rows)
once-lookup test es rows f found = (peers-lookup test es rows f found).sorted

-- ---- no peer has more rows than there are keys
length-filter_once : (test : ℕ → Bool) (rows : List (ℕ × Row)) → PassesOnce test rows
    → length (filter (λ r. test r.0) rows) ≤ 1
length-filter_once test [] once = omega arith
length-filter_once test (r ∷ rows) once = by (length-filter_once test rows once.1) (test r.0) refl
  where
    by : length (filter (λ q. test q.0) rows) ≤ 1 → (b : Bool) → test r.0 ≡ b
        → length (cond b (r ∷ filter (λ q. test q.0) rows) (filter (λ q. test q.0) rows)) ≤ 1
    by more true passes = let none : filter (λ q. test q.0) rows ≡ [] =
        filter-none test rows (once.0 passes) in rw none (omega arith)
    by more false fails = more

length-filter-part : (p : ℕ) (key : List ℕ) (rows : List (ℕ × Row))
    → length (filter (λ e. p == e.0.1) (part spot key rows)) ≡ length (filter (λ r. p == r.0) rows)
length-filter-part p key [] = refl
length-filter-part p key (r ∷ rows) = by (length-filter-part p key rows) (p == r.0)
  where
    by : length (filter (λ e. p == e.0.1) (part spot key rows))
        ≡ length (filter (λ q. p == q.0) rows) → (b : Bool)
        → length (cond b (((key, r.0), r.1) ∷ filter (λ e. p == e.0.1) (part spot key rows))
        (filter (λ e. p == e.0.1) (part spot key rows)))
        ≡ length (cond b (r ∷ filter (λ q. p == q.0) rows) (filter (λ q. p == q.0) rows))
    by more true = omega (arith, more)
    by more false = more

pub rows_of_peer-split : (p : ℕ) (e : List ℕ × List (ℕ × Row)) (es : Keys)
    → rows_of_peer p (rows_in (e ∷ es)) ≡ length (filter (λ r. p == r.0) e.1) + rows_of_peer
    p (rows_in es)
rows_of_peer-split p e es = rw (
  filter-append (λ f. p == f.0.1) (part spot e.0 e.1) (rows_in es),
  length-append,
  length-filter-part p e.0 e.1,
) refl

pub rows_of_peer-le : (es : Keys) (p : ℕ) → EachPeerOnce es
    → rows_of_peer p (rows_in es) ≤ length es
rows_of_peer-le [] p f = omega arith
rows_of_peer-le (e ∷ es) p f =
    let here = length-filter_once (λ q. p == q) e.1 (PassesOnce-sorted nat_cmp_total p (λ q. p == q)
    (λ q. unsigned_ties p q) e.1 f.0.sorted) in
    let split = rows_of_peer-split p e es in
    let more = rows_of_peer-le es p f.1 in
    omega (arith, here, split, more)

-- ---- how a peer's rows are counted on
module _ {Q : Type 0} (C : Q → Q → Ordering) (counts : Q → Bool) where
  -- a new entry counts one more where it counts
  pub length-filter-insert_entry_new : (es : List (Q × Row)) (k : Q) (row : Row)
      → lookup (is_at (C k)) es ≡ None → length (filter (λ e. counts e.0) (insert_entry C es k row))
      ≡ length (filter (λ e. counts e.0) es) + cond (counts k) 1 0
  length-filter-insert_entry_new [] k row none = by (counts k)
    where
      by : (b : Bool) → length {A = Q × Row} (cond b ((k, row) ∷ []) []) ≡ 0 + cond b 1 0
      by true = refl
      by false = refl
  length-filter-insert_entry_new (e ∷ es) k row none =
      by (length-filter-insert_entry_new es k row) (C k e.0) none
    where
      first : (b : Bool) (n : ℕ) (rest : List (Q × Row)) → n ≡ length rest
          → length (cond b ((k, row) ∷ rest) rest) ≡ n + cond b 1 0
      first true n rest is = omega (arith, is)
      first false n rest is = omega (arith, is)

      later : (b : Bool) (more less : List (Q × Row)) (n : ℕ) → length more ≡ length less + n
          → length (cond b (e ∷ more) more) ≡ length (cond b (e ∷ less) less) + n
      later true more less n is = omega (arith, is)
      later false more less n is = is

      by : (lookup (is_at (C k)) es ≡ None
          → length (filter (λ f. counts f.0) (insert_entry C es k row))
          ≡ length (filter (λ f. counts f.0) es) + cond (counts k) 1 0) → (o : Ordering)
          → cond (is_eq o) (Some e.1) (lookup (is_at (C k)) es) ≡ None
          → length (filter (λ f. counts f.0) (match_ordering o ((k, row) ∷ e ∷ es) ((e.0, row) ∷ es)
          (e ∷ insert_entry C es k row))) ≡ length (filter (λ f. counts f.0) (e ∷ es)) + cond
          (counts k) 1 0
      by more Less is = first (counts k) (length (filter (λ f. counts f.0) (e ∷ es)))
          (filter (λ f. counts f.0) (e ∷ es)) refl
      by more Equal is = cc
      by more Greater is = later (counts e.0) (filter (λ f. counts f.0) (insert_entry C es k row))
          (filter (λ f. counts f.0) es) (cond (counts k) 1 0) (more is)

  -- an entry in another's place counts as that did
  pub length-filter-insert_entry_held : IsTotalOrder C
      → (es : List (Q × Row)) (k : Q) (row old : Row) → IsStrictlySortedBy C (keys_of es)
      → lookup (is_at (C k)) es ≡ Some old
      → length (filter (λ e. counts e.0) (insert_entry C es k row))
      ≡ length (filter (λ e. counts e.0) es)
  length-filter-insert_entry_held o [] k row old s found = cc
  length-filter-insert_entry_held o (e ∷ es) k row old s found =
      by (length-filter-insert_entry_held o es k row old (sorted_others C e.0 es s))
      (C k e.0) refl found
    where
      same : (b : Bool) (rest : List (Q × Row)) → length (cond b ((e.0, row) ∷ rest) rest)
          ≡ length (cond b (e ∷ rest) rest)
      same true rest = refl
      same false rest = refl

      later : (b : Bool) (more less : List (Q × Row)) → length more ≡ length less
          → length (cond b (e ∷ more) more) ≡ length (cond b (e ∷ less) less)
      later true more less is = omega (arith, is)
      later false more less is = is

      by : (lookup (is_at (C k)) es ≡ Some old
          → length (filter (λ f. counts f.0) (insert_entry C es k row))
          ≡ length (filter (λ f. counts f.0) es)) → (r : Ordering) → C k e.0 ≡ r
          → cond (is_eq r) (Some e.1) (lookup (is_at (C k)) es) ≡ Some old
          → length (filter (λ f. counts f.0) (match_ordering r ((k, row) ∷ e ∷ es) ((e.0, row) ∷ es)
          (e ∷ insert_entry C es k row))) ≡ length (filter (λ f. counts f.0) (e ∷ es))
      by more Less less is = let none : lookup (is_at (C k)) (e ∷ es) ≡ None =
          lookup_below C o k e es less s in let nothing = rw less at none in cc
      by more Equal equal is = same (counts e.0) (filter (λ f. counts f.0) es)
      by more Greater above is = later (counts e.0)
          (filter (λ f. counts f.0) (insert_entry C es k row))
          (filter (λ f. counts f.0) es) (more is)

  -- an entry that is taken out no longer counts
  pub length-filter-remove_entry : (test : Q → Bool) (b : Bool)
      → ((k : Q) → test k ≡ true → counts k ≡ b) → (es : List (Q × Row)) (old : Row)
      → lookup test es ≡ Some old → length (filter (λ e. counts e.0) (remove_entry test es)) + cond
      b 1 0 ≡ length (filter (λ e. counts e.0) es)
  length-filter-remove_entry test b alike [] old found = cc
  length-filter-remove_entry test b alike (e ∷ es) old found =
      by (length-filter-remove_entry test b alike es old) (test e.0) refl found
    where
      first : (c : Bool) (rest : List (Q × Row)) → c ≡ b
          → length rest + cond b 1 0 ≡ length (cond c (e ∷ rest) rest)
      first c rest is = rw is (each b)
        where
          each : (d : Bool) → length rest + cond d 1 0 ≡ length (cond d (e ∷ rest) rest)
          each true = omega arith
          each false = omega arith

      later : (c : Bool) (less more : List (Q × Row)) (n : ℕ) → length less + n ≡ length more
          → length (cond c (e ∷ less) less) + n ≡ length (cond c (e ∷ more) more)
      later true less more n is = omega (arith, is)
      later false less more n is = is

      by : (lookup test es ≡ Some old → length (filter (λ f. counts f.0) (remove_entry test es)) +
          cond b 1 0 ≡ length (filter (λ f. counts f.0) es)) → (t : Bool) → test e.0 ≡ t
          → cond t (Some e.1) (lookup test es) ≡ Some old
          → length (filter (λ f. counts f.0) (cond t es (e ∷ remove_entry test es))) + cond b 1 0
          ≡ length (filter (λ f. counts f.0) (e ∷ es))
      by more true passes is = first (counts e.0) (filter (λ f. counts f.0) es) (alike e.0 passes)
      by more false fails is = later (counts e.0) (filter (λ f. counts f.0) (remove_entry test es))
          (filter (λ f. counts f.0) es) (cond b 1 0) (more is)
