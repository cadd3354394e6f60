-- The keys of a table, listed by place and then sorted.
use Rattle.std.proofs.Common.{◌≡◌, ℕ, zero, suc, ◌+◌, ◌<◌, Bool, true, false, cond, List, [], ◌∷◌}
use Rattle.std.proofs.Common.{◌++◌, length, take, refl, sym, ◌∙◌, ap, subst, arith}
use Rattle.std.specs.Prelude.{Option, Some, None, map, slice_index_or}
use Rattle.std.specs.Borrow.{Bor}
use Rattle.std.specs.List.{AllByRecursion, IsDistinct}
use Rattle.std.specs.List.Sorted.{IsStrictlySortedBy, IsPermutation, IsSortedBy}
use Rattle.std.specs.Cmp.{eq_by_cmp_equiv}
use Rattle.std.specs.Cmp.Lexicographic.{slice_cmp, nat_list_cmp_total}
use Rattle.std.specs.Map.{keys_of, lookup}
use Rattle.std.specs.Ordering.{is_lt, is_eq, nat_cmp, eq_by_cmp}
use Rattle.std.specs.declared.cmp.Ordering.{Ordering}
use Rattle.std.specs.declared.cmp.Ordering.TheVariants.{Less, Equal, Greater}
use Rattle.std.proofs.lemmas.List.{map-append, append-nil}
use Rattle.std.proofs.lemmas.List.Sorted.{IsPermutation-map, IsPermutation-sym}
use Rattle.std.proofs.lemmas.List.Sorted.{Contains-permutation}
use Rattle.std.proofs.lemmas.Map.Keys.{IsDistinct-head, IsDistinct-tail}
use Rattle.std.proofs.lemmas.Map.Keys.{IsDistinct-IsPermutation}
use Rattle.std.proofs.lemmas.Map.Views.{Contains-from_lookup, lookup-from_Contains}
use Rattle.place_index.specs.Places.{item_at, AreDistinct, IsAbsent, in_order}
use Rattle.peer_rows.specs.declared.row.Row.{Row}
use Rattle.peer_rows.proofs.InTime.{PeerRows}
use Rattle.peer_rows.specs.Places.{Places, Keys, by_place, one_shown, shown}
use Rattle.place_index.proofs.Sorted.{turned, AllAbove-below}
use Rattle.place_index.proofs.Ordered.{at_key, same_if_at, turned_at, same_keys, found}
use Rattle.place_index.proofs.Ordered.{lookup-in_order, sorted-in_order, distinct_others, apart}

abbrev pub LentKey : Type 0
LentKey = Bor (List ℕ) × Bor (List (ℕ × Row))

abbrev Item : Type 0
Item = List ℕ × PeerRows

-- ---- by place
abbrev one_listed : Option Item → Keys
one_listed None = []
one_listed (Some item) = item ∷ []

by_place-take : (places : Places) (at : ℕ) → at < length places
    → by_place (take (suc at) places) ≡ by_place (take at places) ++ one_listed (item_at places at)
by_place-take [] at within = absurd (omega arith)
by_place-take (None ∷ places) zero within = refl
by_place-take (Some item ∷ places) zero within = refl
by_place-take (None ∷ places) (suc at) within = by_place-take places at (omega arith)
by_place-take (Some item ∷ places) (suc at) within =
    ap (λ (l : Keys). item ∷ l) (by_place-take places at (omega arith))

one_more : (at : ℕ) → suc at ≡ at + 1
one_more at = omega arith

pub listed-more : (items : List LentKey) (one : LentKey) (places : Places) (at : ℕ)
    → at < length places → shown items ≡ by_place (take at places)
    → Some (one_shown one) ≡ item_at places at
    → shown (items ++ one ∷ []) ≡ by_place (take (at + 1) places)
listed-more items one places at within so_far is =
    map-append one_shown items (one ∷ [])
    ∙ ap (λ (l : Keys). l ++ one_shown one ∷ []) so_far
    ∙ ap (λ (o : Option Item). by_place (take at places) ++ one_listed o) is
    ∙ sym (by_place-take places at within)
    ∙ ap (λ n. by_place (take n places)) (one_more at)

pub listed-none : (items : List LentKey) (places : Places) (at : ℕ)
    → at < length places → shown items ≡ by_place (take at places)
    → None ≡ item_at places at → shown items ≡ by_place (take (at + 1) places)
listed-none items places at within so_far is =
    so_far ∙ sym (append-nil (by_place (take at places)))
    ∙ ap (λ (o : Option Item). by_place (take at places) ++ one_listed o) is
    ∙ sym (by_place-take places at within)
    ∙ ap (λ n. by_place (take n places)) (one_more at)

-- ---- the keys by place differ, and answer look-ups as those in order
others_differ : (places : Places) (key : List ℕ) → IsAbsent places key
    → AllByRecursion (λ k. eq_by_cmp (slice_cmp nat_cmp) key k ≡ false) (keys_of (by_place places))
others_differ [] key absent = tt
others_differ (None ∷ places) key absent =
    others_differ places key (λ at is. absent (suc at) is)
others_differ (Some item ∷ places) key absent =
    (by (at_key key item.0) refl, others_differ places key (λ at is. absent (suc at) is))
  where
    by : (b : Bool) → at_key key item.0 ≡ b → at_key key item.0 ≡ false
    by true is = absurd (absent zero (ap Some (sym (same_if_at key item.0 is))))
    by false is = is

pub distinct_keys : (places : Places) → AreDistinct places
    → IsDistinct (eq_by_cmp (slice_cmp nat_cmp)) (keys_of (by_place places))
unfolding IsDistinct
distinct_keys [] d = tt
distinct_keys (None ∷ places) d = distinct_keys places (distinct_others None places d)
distinct_keys (Some item ∷ places) d = (
  others_differ places item.0 (λ p held. apart item places p item.0 d held refl),
  distinct_keys places (distinct_others (Some item) places d),
)

pub lookup-by_place : (places : Places) (q : List ℕ)
    → lookup (at_key q) (by_place places) ≡ found places q
lookup-by_place [] q = refl
lookup-by_place (None ∷ places) q = lookup-by_place places q
lookup-by_place (Some item ∷ places) q =
    ap (λ (o : Option PeerRows). cond (at_key q item.0) (Some item.1) o)
    (lookup-by_place places q)
    ∙ ap (λ (b : Bool). cond b (Some item.1) (found places q)) (turned_at q item.0)

-- ---- keys that differ are found in any order
pub alike : (es fs : Keys) (q : List ℕ) → IsPermutation es fs
    → IsDistinct (eq_by_cmp (slice_cmp nat_cmp)) (keys_of es)
    → IsDistinct (eq_by_cmp (slice_cmp nat_cmp)) (keys_of fs)
    → lookup (at_key q) es ≡ lookup (at_key q) fs
alike es fs q moved d e = by (lookup (at_key q) es) refl (lookup (at_key q) fs) refl
  where
    across : (xs ys : Keys) (v : PeerRows) → IsPermutation xs ys
        → IsDistinct (eq_by_cmp (slice_cmp nat_cmp)) (keys_of ys)
        → lookup (at_key q) xs ≡ Some v → lookup (at_key q) ys ≡ Some v
    across xs ys v perm distinct is =
        lookup-from_Contains (eq_by_cmp_equiv nat_list_cmp_total) q v ys distinct
        (Contains-permutation xs ys (q, v) perm
        (Contains-from_lookup {eq = eq_by_cmp (slice_cmp nat_cmp)}
        (λ x y same. same_if_at x y same) q v xs is))

    by : (a : Option PeerRows) → lookup (at_key q) es ≡ a → (b : Option PeerRows)
        → lookup (at_key q) fs ≡ b → lookup (at_key q) es ≡ lookup (at_key q) fs
    by None is None has = is ∙ sym has
    by (Some v) is b has = is ∙ sym (across es fs v moved e is)
    by None is (Some v) has = across fs es v (IsPermutation-sym es fs moved) d has ∙ sym has

-- ---- what is sorted and differs rises
module _ {X : Type 0} (item : X → Item) where
  abbrev pub Rises : List X → Type 0
  Rises keys = (j k : ℕ) (d : X) → j ≡ k + 1 → j < length keys
      → is_lt (slice_cmp nat_cmp (item (slice_index_or keys j d)).0
      (item (slice_index_or keys k d)).0) ≡ false

  pub rising : (keys : List X) → Rises keys
      → IsDistinct (eq_by_cmp (slice_cmp nat_cmp)) (keys_of (map item keys))
      → IsStrictlySortedBy (slice_cmp nat_cmp) (keys_of (map item keys))
  unfolding IsStrictlySortedBy
  rising [] up d = tt
  rising (x ∷ []) up d = (tt, tt)
  rising (x ∷ (y ∷ keys)) up d =
      let rest : IsStrictlySortedBy (slice_cmp nat_cmp) (keys_of (map item (y ∷ keys))) =
      rising (y ∷ keys) (λ j k z is within. up (suc j) (suc k) z (omega (arith, is))
      (omega (arith, within)))
      (IsDistinct-tail (eq_by_cmp (slice_cmp nat_cmp)) (item x).0
      (keys_of (map item (y ∷ keys))) d) in
      let less : slice_cmp nat_cmp (item x).0 (item y).0 ≡ Less =
      by (slice_cmp nat_cmp (item x).0 (item y).0) refl in (
        (
          less,
          AllAbove-below (slice_cmp nat_cmp) nat_list_cmp_total (item x).0 (item y).0 less
              (map item keys) rest.0,
        ),
        rest,
      )
    where
      by : (o : Ordering) → slice_cmp nat_cmp (item x).0 (item y).0 ≡ o
          → slice_cmp nat_cmp (item x).0 (item y).0 ≡ Less
      by Less is = is
      by Equal is =
          let differ : at_key (item x).0 (item y).0 ≡ false =
          (IsDistinct-head (eq_by_cmp (slice_cmp nat_cmp)) (item x).0
          (keys_of (map item (y ∷ keys))) d).0 in
          let same : at_key (item x).0 (item y).0 ≡ true = ap is_eq is in
          let wrong : true ≡ false = sym same ∙ differ in
          cc
      by Greater is =
          let below : is_lt (slice_cmp nat_cmp (item y).0 (item x).0) ≡ true =
          ap is_lt (turned nat_list_cmp_total (item x).0 (item y).0 is) in
          let not_below : is_lt (slice_cmp nat_cmp (item y).0 (item x).0) ≡ false =
          up (suc zero) zero x (omega arith) (omega arith) in
          let wrong : true ≡ false = sym below ∙ not_below in
          cc

  -- what a sort says of neighbours
  pub rises_from_sort : (keys : List X)
      → IsSortedBy (λ a b. is_lt (slice_cmp nat_cmp (item a).0 (item b).0)) keys → Rises keys
  rises_from_sort keys sorted = λ j k d is within.
      let near : k + 1 < length keys = omega (arith, is, within) in
      let up = sorted k d (omega arith) near in
      subst (λ i. is_lt (slice_cmp nat_cmp (item (slice_index_or keys i d)).0
      (item (slice_index_or keys k d)).0) ≡ false) (sym is) up

-- the keys by place, sorted, are those in order
pub sorted-listed : (places : Places) (xs ys : List LentKey) → AreDistinct places
    → shown xs ≡ by_place places → IsPermutation xs ys → Rises one_shown ys
    → shown ys ≡ in_order places
sorted-listed places xs ys d listed moved up =
    let perm : IsPermutation (by_place places) (shown ys) =
    subst (λ (l : Keys). IsPermutation l (shown ys)) listed
    (IsPermutation-map one_shown xs ys moved) in
    let differ : IsDistinct (eq_by_cmp (slice_cmp nat_cmp)) (keys_of (by_place places)) =
    distinct_keys places d in
    let differ_too : IsDistinct (eq_by_cmp (slice_cmp nat_cmp)) (keys_of (shown ys)) =
    IsDistinct-IsPermutation (eq_by_cmp (slice_cmp nat_cmp)) (λ x y. turned_at x y)
    (keys_of (by_place places)) (keys_of (shown ys))
    (IsPermutation-map (λ (e : Item). e.0) (by_place places) (shown ys) perm) differ in
    same_keys (shown ys) (in_order places) (rising one_shown ys up differ_too)
    (sorted-in_order places)
    (λ q. sym (alike (by_place places) (shown ys) q perm differ differ_too)
    ∙ lookup-by_place places q ∙ sym (lookup-in_order places q))
