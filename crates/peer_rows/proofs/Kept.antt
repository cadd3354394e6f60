-- What a table keeps beside its rows, as they change: each peer's number of rows.
use Rattle.std.proofs.Common.{◌≡◌, ◌≢◌, ℕ, zero, suc, ◌+◌, ◌-◌, ◌<◌, ◌≤◌, Bool, true, false, cond}
use Rattle.std.proofs.Common.{◌&&◌, List, [], ◌∷◌, length, refl, sym, ◌∙◌, ap, subst, arith, get_or}
use Rattle.std.proofs.Common.{◌^◌, replicate, set, get_or-set_same, get_or-set_other, ⊎_elim}
use Rattle.std.specs.Option.{is_some}
use Rattle.std.specs.Prelude.{Result, Ok, Err, IfOk, IfSome, IsSome}
use Rattle.std.specs.Prelude.{Option, Some, None, IfNone, MatchBool, not, filter, map, ◌==◌}
use Rattle.std.specs.declared.cmp.Ordering.{Ordering}
use Rattle.std.specs.declared.cmp.Ordering.TheVariants.{Less, Equal, Greater}
use Rattle.std.specs.Ordering.{is_eq, nat_cmp, ordering_then}
use Rattle.std.specs.Cmp.{IsTotalOrder, nat_cmp_total, unsigned_ties, then_total, on_total}
use Rattle.std.specs.Cmp.Lexicographic.{slice_cmp, nat_list_cmp_total}
use Rattle.std.specs.Map.{keys_of, lookup, remove_entry, set_value}
use Rattle.std.specs.BTreeMap.{insert_entry, is_at}
use Rattle.std.specs.List.{AllByRecursion}
use Rattle.std.specs.List.Sorted.{IsStrictlySortedBy}
use Rattle.std.proofs.lemmas.Bool.{cases_eq, cases_lt}
use Rattle.std.proofs.lemmas.Bool.Decides.{nat_tests}
use Rattle.std.proofs.lemmas.List.{get_or_past, length-map}
use Rattle.std.proofs.lemmas.Map.{none_passes_from_lookup}
use Rattle.peer_rows.specs.declared.row.Row.{Row}
use Rattle.peer_rows.specs.Table.{Spot, spot, spot_cmp, same_key, rows_in, rows_of_peer}
use Rattle.peer_rows.specs.Table.{rows_at_peer, EachPeerOnce, IsKept, TableRows}
use Rattle.place_index.proofs.Ordered.{sorted-in_order}
use Rattle.std.proofs.lemmas.Cmp.{tied_itself}
use Rattle.peer_rows.proofs.Selecting.{filter_not-none, filter-none}
use Rattle.peer_rows.proofs.Spreading.{spread-remove_entry, spread-none, filter_not-spread}
use Rattle.peer_rows.proofs.Spreading.{map-filter-spread, sorted-spread}
use Rattle.peer_rows.proofs.Keying.{Keys, lookup_not_held, one_key, once-remove_entry, peers-lookup}
use Rattle.peer_rows.proofs.Keying.{rows_of_peer-split, rows_of_peer-le}
use Rattle.peer_rows.proofs.Keying.{length-filter-insert_entry_new}
use Rattle.peer_rows.proofs.Keying.{length-filter-insert_entry_held, length-filter-remove_entry}

-- each key's rows stand by peer
once_sorted : (es : Keys) → EachPeerOnce es
    → AllByRecursion (λ (e : List ℕ × List (ℕ × Row)). IsStrictlySortedBy nat_cmp (keys_of e.1)) es
once_sorted [] once = tt
once_sorted (e ∷ es) once = (once.0.sorted, once_sorted es once.1)

-- the rows of a table are in order
pub sorted_rows : (es : Keys) → IsStrictlySortedBy (slice_cmp nat_cmp) (keys_of es)
    → EachPeerOnce es → IsStrictlySortedBy spot_cmp (keys_of (rows_in es))
sorted_rows es s once = sorted-spread spot (slice_cmp nat_cmp) nat_cmp spot_cmp (λ k j p q. refl) es
    (tied_itself nat_list_cmp_total) s (once_sorted es once)

pub spot_cmp_total : IsTotalOrder spot_cmp
spot_cmp_total = then_total (on_total (λ (q : Spot). q.0) nat_list_cmp_total)
    (on_total (λ (q : Spot). q.1) nat_cmp_total)

-- a spot that is found has the peer that was looked for
same_peer : (key : List ℕ) (peer : ℕ) (k : Spot) → is_at (spot_cmp (key, peer)) k
    ≡ true → peer ≡ k.1
same_peer key peer k passes = equal (second (slice_cmp nat_cmp key k.0) passes)
  where
    second : (o : Ordering) → is_eq (ordering_then o (nat_cmp peer k.1)) ≡ true
        → is_eq (nat_cmp peer k.1) ≡ true
    second Less e = cc
    second Equal e = e
    second Greater e = cc

    equal : is_eq (nat_cmp peer k.1) ≡ true → peer ≡ k.1
    equal e = let same : (peer == k.1) ≡ true = unsigned_ties peer k.1 ∙ e in
        grind (arith, nat_tests, same)

-- a count one up at a peer
counted_up : (counts : List ℕ) (peer : ℕ) (p : ℕ) (n m : ℕ) → peer < length counts
    → get_or counts p 0 ≡ n → m ≡ n + cond (p == peer) 1 0
    → get_or (set counts peer (get_or counts peer 0 + 1)) p 0 ≡ m
counted_up counts peer p n m in_range is more = ⊎_elim
    (λ (same : p ≡ peer). grind (
      arith,
      nat_tests,
      same,
      get_or-set_same counts peer (get_or counts peer 0 + 1) 0 in_range,
    ))
    (λ (other : p ≢ peer). grind (
      arith,
      nat_tests,
      other,
      get_or-set_other counts peer p (get_or counts peer 0 + 1) 0 other,
    ))
    (cases_eq p peer)

counted_down : (counts : List ℕ) (peer : ℕ) (p : ℕ) (n m : ℕ) → peer < length counts
    → get_or counts p 0 ≡ n → m + cond (p == peer) 1 0 ≡ n
    → get_or (set counts peer (get_or counts peer 0 - 1)) p 0 ≡ m
counted_down counts peer p n m in_range is less = ⊎_elim
    (λ (same : p ≡ peer). grind (
      arith,
      nat_tests,
      same,
      get_or-set_same counts peer (get_or counts peer 0 - 1) 0 in_range,
    ))
    (λ (other : p ≢ peer). grind (
      arith,
      nat_tests,
      other,
      get_or-set_other counts peer p (get_or counts peer 0 - 1) 0 other,
    ))
    (cases_eq p peer)

module _ (es fs : Keys) (counts : List ℕ) (key : List ℕ) (peer : ℕ) (kept : IsKept es counts)
    (ordered : IsStrictlySortedBy (slice_cmp nat_cmp) (keys_of fs)) (once : EachPeerOnce fs) where
  pub kept-put_new : (row : Row) → rows_in fs ≡ insert_entry spot_cmp (rows_in es) (key, peer) row
      → lookup (is_at (spot_cmp (key, peer))) (rows_in es) ≡ None → peer < length counts
      → IsKept fs (set counts peer (get_or counts peer 0 + 1))
  kept-put_new row is none in_range = record {
    ordered = ordered;
    once = once;
    counted = λ p. counted_up counts peer p (rows_of_peer p (rows_in es))
        (rows_of_peer p (rows_in fs)) in_range (kept.counted p) (ap (λ rows. rows_of_peer p rows) is
        ∙ length-filter-insert_entry_new spot_cmp (λ q. p == q.1) (rows_in es) (
          key,
          peer,
        ) row none);
  }

  pub kept-put_held : (row old : Row) → rows_in fs ≡ insert_entry spot_cmp (rows_in es) (
    key,
    peer,
  ) row → lookup (is_at (spot_cmp (key, peer))) (rows_in es) ≡ Some old → IsKept fs counts
  kept-put_held row old is found = record {
    ordered = ordered;
    once = once;
    counted = λ p. kept.counted p ∙ sym (ap (λ rows. rows_of_peer p rows) is
        ∙ length-filter-insert_entry_held spot_cmp (λ q. p == q.1) spot_cmp_total (rows_in es) (
          key,
          peer,
        ) row old (sorted_rows es kept.ordered kept.once) found);
  }

  pub kept-exchanged : (row : Row) (new : Row) (before : Row) (found : Bool)
      → MatchBool found (rows_in fs ≡ insert_entry spot_cmp (rows_in es) (key, peer) row) (fs ≡ es)
      → MatchBool found (lookup (is_at (spot_cmp (key, peer))) (rows_in es) ≡ Some new)
      (new ≡ before) → IsKept fs counts
  kept-exchanged row new before true is old = kept-put_held row new is old
  kept-exchanged row new before false is old = subst (λ (ks : Keys). IsKept ks counts) (sym is) kept

  pub kept-take : (old : Row) → rows_in fs ≡ remove_entry (is_at (spot_cmp (key, peer)))
      (rows_in es) → lookup (is_at (spot_cmp (key, peer))) (rows_in es) ≡ Some old
      → peer < length counts → IsKept fs (set counts peer (get_or counts peer 0 - 1))
  kept-take old is found in_range = record {
    ordered = ordered;
    once = once;
    counted = λ p. counted_down counts peer p (rows_of_peer p (rows_in es))
        (rows_of_peer p (rows_in fs)) in_range (kept.counted p)
        (rw is (length-filter-remove_entry spot_cmp (λ q. p == q.1) (is_at (spot_cmp (key, peer)))
        (p == peer) (λ k passes. ap (λ n. p == n) (sym (same_peer key peer k passes)))
        (rows_in es) old found));
  }

-- ---- a key whose rows are all taken out
no_test : (rows : List (ℕ × Row)) → filter (λ r. not true) rows ≡ []
no_test [] = refl
no_test (r ∷ rows) = no_test rows

all_pass : (rows : List (ℕ × Row)) → map (λ r. r) (filter (λ r. true) rows) ≡ rows
all_pass [] = refl
all_pass (r ∷ rows) = ap (λ rest. r ∷ rest) (all_pass rows)

key_splits : (key k : List ℕ) (p : ℕ) → same_key key k ≡ (same_key key k && true)
key_splits key k p = by (same_key key k)
  where
    by : (b : Bool) → b ≡ (b && true)
    by true = refl
    by false = refl

module _ (es : Keys) (key : List ℕ) where
  pub clear_not_held : lookup (is_at (slice_cmp nat_cmp key)) es ≡ None
      → filter (λ e. not (same_key key e.0.0)) (rows_in es) ≡ rows_in es
  clear_not_held none = filter_not-none (λ (q : Spot). same_key key q.0) (rows_in es)
      (spread-none spot (same_key key) (λ p. true) (λ q. same_key key q.0) (key_splits key) es
      (none_passes_from_lookup (is_at (slice_cmp nat_cmp key)) es none))

  pub none_of_key : lookup (is_at (slice_cmp nat_cmp key)) es ≡ None
      → filter (λ e. same_key key e.0.0) (rows_in es) ≡ []
  none_of_key none = filter-none (λ (q : Spot). same_key key q.0) (rows_in es)
      (spread-none spot (same_key key) (λ p. true) (λ q. same_key key q.0) (key_splits key) es
      (none_passes_from_lookup (is_at (slice_cmp nat_cmp key)) es none))

  module _ (rows : List (ℕ × Row)) (s : IsStrictlySortedBy (slice_cmp nat_cmp) (keys_of es))
      (found : lookup (is_at (slice_cmp nat_cmp key)) es ≡ Some rows) where
    pub clear_held : rows_in (remove_entry (is_at (slice_cmp nat_cmp key)) es)
        ≡ filter (λ e. not (same_key key e.0.0)) (rows_in es)
    clear_held = spread-remove_entry spot (is_at (slice_cmp nat_cmp key)) es
        ∙ ap (λ rest. rows_in (set_value (is_at (slice_cmp nat_cmp key)) es rest))
        (sym (no_test rows)) ∙ filter_not-spread spot (same_key key) (λ p. true)
        (λ q. same_key key q.0) (key_splits key) es rows (one_key es key 0 s) found

    pub rows_of_key : map (λ e. (e.0.1, e.1)) (filter (λ e. same_key key e.0.0) (rows_in es)) ≡ rows
    rows_of_key = map-filter-spread spot (same_key key) (λ p. true) (λ q. same_key key q.0)
        (key_splits key) (λ (e : Spot × Row). (e.0.1, e.1)) (λ (r : ℕ × Row). r)
        (λ k p x passes. refl) es rows (one_key es key 0 s) found ∙ all_pass rows

    pub length-rows_of_key : length (filter (λ e. same_key key e.0.0) (rows_in es)) ≡ length rows
    length-rows_of_key = sym (length-map (filter (λ (e : Spot × Row). same_key key e.0.0)
        (rows_in es)) (λ e. (e.0.1, e.1))) ∙ ap length rows_of_key

-- a key of whose rows none is listed isn't there
pub none_in_keys : (es : Keys) (key : List ℕ) → IsStrictlySortedBy (slice_cmp nat_cmp) (keys_of es)
    → EachPeerOnce es → filter (λ e. same_key key e.0.0) (rows_in es) ≡ []
    → lookup (is_at (slice_cmp nat_cmp key)) es ≡ None
none_in_keys es key s once none = by (lookup (is_at (slice_cmp nat_cmp key)) es) refl
  where
    by : (found : Option (List (ℕ × Row))) → lookup (is_at (slice_cmp nat_cmp key)) es ≡ found
        → found ≡ None
    by None is = refl
    by (Some rows) is =
        let listed : map {B = ℕ × Row} (λ (e : Spot × Row). (e.0.1, e.1)) [] ≡ rows =
        ap (λ l. map {B = ℕ × Row} (λ (e : Spot × Row). (e.0.1, e.1)) l) (sym none)
        ∙ rows_of_key es key rows s is in
        absurd ((peers-lookup (is_at (slice_cmp nat_cmp key)) es rows once is).some (sym listed))

pub rows_of_peer-remove : (test : List ℕ → Bool) (es : Keys) (rows : List (ℕ × Row)) (p : ℕ)
    → lookup test es ≡ Some rows → rows_of_peer p (rows_in (remove_entry test es)) + rows_at_peer p
    rows ≡ rows_of_peer p (rows_in es)
rows_of_peer-remove test [] rows p found = cc
rows_of_peer-remove test (e ∷ es) rows p found =
    by (rows_of_peer-remove test es rows p) (test e.0) found
  where
    by : (lookup test es ≡ Some rows → rows_of_peer p (rows_in (remove_entry test es)) +
        rows_at_peer p rows ≡ rows_of_peer p (rows_in es)) → (b : Bool)
        → cond b (Some e.1) (lookup test es) ≡ Some rows
        → rows_of_peer p (rows_in (cond b es (e ∷ remove_entry test es))) + rows_at_peer p rows
        ≡ rows_of_peer p (rows_in (e ∷ es))
    by more true is = let same : e.1 ≡ rows = cc in let split = rows_of_peer-split p e es in
        let here : rows_at_peer p e.1 ≡ rows_at_peer p rows = ap (λ rs. rows_at_peer p rs) same in
        omega (arith, split, here)
    by more false is = let rest = more is in let split = rows_of_peer-split p e es in let fewer =
        rows_of_peer-split p e (remove_entry test es) in omega (arith, rest, split, fewer)

-- the rows of a key taken out and counted down
pub kept-clear : (es fs : Keys) (counts less : List ℕ) (key : List ℕ) (rows : List (ℕ × Row))
    → IsKept es counts → lookup (is_at (slice_cmp nat_cmp key)) es ≡ Some rows
    → fs ≡ remove_entry (is_at (slice_cmp nat_cmp key)) es
    → IsStrictlySortedBy (slice_cmp nat_cmp) (keys_of fs)
    → ((p : ℕ) → get_or less p 0 + rows_at_peer p rows ≡ get_or counts p 0) → IsKept fs less
kept-clear es fs counts less key rows kept found is ordered down = record {
  ordered = ordered;
  once = subst EachPeerOnce (sym is) (once-remove_entry (is_at (slice_cmp nat_cmp key))
      es kept.once);
  counted = λ p. let was = kept.counted p in let counts_down = down p in
      let fewer : rows_of_peer p (rows_in fs) + rows_at_peer p rows ≡ rows_of_peer p (rows_in es) =
      rw is (rows_of_peer-remove (is_at (slice_cmp nat_cmp key)) es rows p found) in
      omega (arith, was, counts_down, fewer);
}

pub can_count_down : (es : Keys) (counts : List ℕ) (key : List ℕ) (rows : List (ℕ × Row))
    → IsKept es counts → lookup (is_at (slice_cmp nat_cmp key)) es ≡ Some rows → (p : ℕ)
    → rows_at_peer p rows ≤ get_or counts p 0
can_count_down es counts key rows kept found p = let was = kept.counted p in let fewer =
    rows_of_peer-remove (is_at (slice_cmp nat_cmp key)) es rows p found in omega (arith, was, fewer)

-- a peer with a row left to count down is within the counts
pub counted_in_range : (counts : List ℕ) (peer : ℕ) (row : Row) (rest left : List (ℕ × Row))
    → left ≡ (peer, row) ∷ rest → ((p : ℕ) → rows_at_peer p left ≤ get_or counts p 0)
    → peer < length counts
counted_in_range counts peer row rest left is enough = ⊎_elim
    (λ (inside : peer < length counts). inside)
    (λ (past : length counts ≤ peer). absurd (too_many past))
    (cases_lt peer (length counts))
  where
    itself : rows_at_peer peer ((peer, row) ∷ rest) ≡ suc (rows_at_peer peer rest)
    itself = let same : (peer == peer) ≡ true = grind (arith, nat_tests) in rw same refl

    too_many : length counts ≤ peer → ⊥
    too_many past = let nothing = get_or_past counts peer 0 past in let some = enough peer in
        let one = ap (λ rows. rows_at_peer peer rows) is in let more = itself in
        omega (arith, nothing, some, one, more)

-- an option that a test says is there
pub is_there : (o : Option Row) → is_some o ≡ true → (row : Row) × (o ≡ Some row)
is_there None e = cc
is_there (Some row) e = (row, refl)

pub is_nothing : {A : Type 0} (o : Option A) → is_some o ≡ false → o ≡ None
is_nothing None e = refl
is_nothing (Some x) e = cc

pub is_missing : (o : Option Row) → is_some o ≡ false → o ≡ None
is_missing None e = refl
is_missing (Some row) e = cc

-- an element, whatever stands for what is past the end
pub get_or_in : (counts : List ℕ) (i n : ℕ) → i < length counts → n ≡ get_or counts i n
    → n ≡ get_or counts i 0
get_or_in [] i n h e = absurd (omega (arith, h))
get_or_in (x ∷ xs) zero n h e = e
get_or_in (x ∷ xs) (suc i) n h e = get_or_in xs i n (omega (arith, h)) e

-- what can be counted down at a peer that holds a row
pub counted_some : (es : Keys) (counts : List ℕ) (key : List ℕ) (peer : ℕ) (old : Row)
    → IsKept es counts → lookup (is_at (spot_cmp (key, peer))) (rows_in es) ≡ Some old
    → 1 ≤ get_or counts peer 0
counted_some es counts key peer old kept found =
    let less = length-filter-remove_entry spot_cmp (λ q. peer == q.1) (is_at (spot_cmp (key, peer)))
    true (λ k passes. let same : peer ≡ k.1 = same_peer key peer k passes in
    grind (arith, nat_tests, same)) (rows_in es) old found in
    let was = kept.counted peer in
    omega (arith, less, was)

pub kept-same : (es fs : Keys) (counts : List ℕ) → IsKept es counts
    → IsStrictlySortedBy (slice_cmp nat_cmp) (keys_of fs) → EachPeerOnce fs
    → rows_in fs ≡ rows_in es → IsKept fs counts
kept-same es fs counts kept ordered once is = record {
  ordered = ordered;
  once = once;
  counted =
      λ p. kept.counted p ∙ ap (λ rows. rows_of_peer p rows) (sym is);
}

-- a peer's count has room for a row that came, since no peer has more rows than there are keys
pub few_after : (es fs : Keys) (counts : List ℕ) (key : List ℕ) (peer : ℕ) (row : Row) (n : ℕ)
    → IsKept es counts → rows_in fs ≡ insert_entry spot_cmp (rows_in es) (key, peer) row
    → lookup (is_at (spot_cmp (key, peer))) (rows_in es) ≡ None → EachPeerOnce fs
    → n ≡ length fs → n < 2 ^ 64 → get_or counts peer 0 + 1 < 2 ^ 64
few_after es fs counts key peer row n kept is none once len small =
    let one : (peer == peer) ≡ true = grind (arith, nat_tests) in
    let more : rows_of_peer peer (rows_in fs) ≡ rows_of_peer peer (rows_in es) + 1 =
    ap (λ rows. rows_of_peer peer rows) is
    ∙ length-filter-insert_entry_new spot_cmp (λ q. peer == q.1) (rows_in es) (key, peer) row none
    ∙ ap (λ (b : Bool). rows_of_peer peer (rows_in es) + cond b 1 0) one in
    let was = kept.counted peer in
    let most = rows_of_peer-le fs peer once in
    omega (arith, more, was, most, len, small)

-- the first row of a key is counted up at its peer
module _ (es fs : Keys) (counts : List ℕ) (key : List ℕ) (peer n : ℕ) (row : Row)
    (kept : IsKept es counts) (once : EachPeerOnce fs)
    (is : rows_in fs ≡ insert_entry spot_cmp (rows_in es) (key, peer) row)
    (none : lookup (is_at (slice_cmp nat_cmp key)) es ≡ None) (in_range : peer < length counts)
    (count : n ≡ get_or counts peer n) where
  pub first_fits : (keys : ℕ) → keys ≡ length fs → keys < 2 ^ 64 → n + 1 < 2 ^ 64
  first_fits keys len small =
      let few = few_after es fs counts key peer row keys kept is (lookup_not_held es key peer none)
      once len small in
      let same = get_or_in counts peer n in_range count in
      omega (arith, few, same)

  pub kept-first : IsStrictlySortedBy (slice_cmp nat_cmp) (keys_of fs)
      → IsKept fs (set counts peer (n + 1))
  kept-first ordered = rw (get_or_in counts peer n in_range count)
      (kept-put_new es fs counts key peer kept ordered once row is
      (lookup_not_held es key peer none) in_range)

alike_at : (n p z : ℕ) → get_or (replicate n z) p z ≡ z
alike_at zero zero z = refl
alike_at zero (suc p) z = refl
alike_at (suc n) zero z = refl
alike_at (suc n) (suc p) z = alike_at n p z

-- a table without keys
pub kept-none : (es : Keys) (counts : List ℕ) (n : ℕ) → es ≡ [] → counts ≡ replicate n 0
    → IsKept es counts
kept-none es counts n none zeros = record {
  ordered = subst (λ (l : Keys). IsStrictlySortedBy (slice_cmp nat_cmp) (keys_of l)) (sym none)
      (sorted-in_order {V = List (ℕ × Row)} []);
  once = subst (λ (l : Keys). EachPeerOnce l) (sym none) tt;
  counted = λ p. ap (λ (l : List ℕ). get_or l p 0) zeros ∙ alike_at n p 0
      ∙ ap (λ (l : Keys). rows_of_peer p (rows_in l)) (sym none);
}

-- a table by its number of peers and its rows
abbrev pub record_of : ℕ → List (Spot × Row) → TableRows
record_of n rows = record { peers = n; entries = rows }

pub same_rows : (n m : ℕ) (xs ys : List (Spot × Row)) → n ≡ m → xs ≡ ys
    → record_of n xs ≡ record_of m ys
same_rows n m xs ys e f = rw (e, f) refl

-- what holds where there is nothing
pub none_then : {A : Type 0} {P Q : Type 0} (o : Option A) → (P → Q) → IfNone o P → IfNone o Q
none_then None f p = f p
none_then (Some x) f p = p

-- what holds where nothing was there before
pub first_then : {A E : Type 0} {P Q : Type 0} (r : Result (Option A) E) → (P → Q)
    → IfOk r (λ held. IfNone held P) → IfOk r (λ held. IfNone held Q)
first_then (Ok held) f p = none_then held f p
first_then (Err e) f p = p

pub some_then : {A : Type 0} {P Q : Type 0} (held : Option A) → (P → Q) → IfSome held (λ _. P)
    → IfSome held (λ _. Q)
some_then None f p = tt
some_then (Some a) f p = f p

pub found_then : {A E : Type 0} {P Q : Type 0} (r : Result (Option A) E) → (P → Q)
    → IfOk r (λ held. IfSome held (λ _. P)) → IfOk r (λ held. IfSome held (λ _. Q))
found_then (Ok held) f p = some_then held f p
found_then (Err e) f p = p

-- a key that is there is listed
pub some_listed : (es : Keys) (key : List ℕ) → IsStrictlySortedBy (slice_cmp nat_cmp) (keys_of es)
    → EachPeerOnce es → IsSome (lookup (is_at (slice_cmp nat_cmp key)) es)
    → filter (λ e. same_key key e.0.0) (rows_in es) ≢ []
some_listed es key s once some none = let wrong = rw (none_in_keys es key s once none) at some in cc

pub map_some : {A B : Type 0} (f : A → B) (xs : List A) → xs ≢ [] → map f xs ≢ []
map_some f [] some none = some refl
map_some f (x ∷ xs) some none = cc
