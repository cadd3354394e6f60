-- Keys with their rows, in the order of their bytes.
use Rattle.std.proofs.Common.{◌≡◌, ℕ, zero, suc, ◌≤◌, Bool, true, false, cond}
use Rattle.std.proofs.Common.{List, [], ◌∷◌, ◌++◌, Option, None, Some, length, take, drop}
use Rattle.std.proofs.Common.{refl, ap, subst, arith}
use Rattle.std.specs.Prelude.{filter, slice_get}
use Rattle.std.proofs.lemmas.Cmp.{eq_by_cmp_equiv, nat_list_cmp_total, on_total}
use Rattle.std.proofs.lemmas.List.Sorted.{IsPermutation-cons, IsPermutation-map}
use Rattle.std.proofs.lemmas.List.Sorted.{IsPermutation-middle, IsPermutation-refl}
use Rattle.std.proofs.lemmas.List.Sorted.{IsPermutation-trans}
use Rattle.std.proofs.lemmas.Map.Keys.{IsDistinct-IsPermutation, IsDistinct-from_sorted}
use Rattle.std.proofs.lemmas.Map.Lookups.{exact_bytes}
use Rattle.std.specs.Cmp.{IsTotalOrder}
use Rattle.std.specs.Cmp.Lexicographic.{slice_cmp}
use Rattle.std.specs.List.{AllByRecursion, IsDistinct}
use Rattle.std.specs.List.Sorted.{IsPermutation, IsStrictlySortedBy}
use Rattle.std.specs.Map.{keys_of}
use Rattle.std.specs.Ordering.{eq_by_cmp, is_eq, is_lt, nat_cmp}
use Rattle.std.specs.declared.cmp.Ordering.{Ordering}
use Rattle.std.specs.declared.cmp.Ordering.TheVariants.{Less}
use Rattle.fleet_model.specs.Ranking.{in_order, put_in_order}
use Rattle.fleet_model.proofs.Entries.{same_lookups}
use Rattle.fleet_model.proofs.Every.{sorted_from}
use Rattle.fleet_model.proofs.Ranks.{Untied, all-put, sorted-in_order}
use Rattle.peer_rows.specs.Places.{Keys}
use Rattle.peer_rows.specs.declared.row.Row.{Row}
use Rattle.peer_rows.proofs.Listed.{alike}
use Rattle.book_rows.specs.First.{AreOnce}

abbrev pub Entry : Type 0
Entry = List ℕ × List (ℕ × Row)

abbrev pub by_key : Entry → Entry → Ordering
by_key a b = slice_cmp nat_cmp a.0 b.0

abbrev pub InOrder : Keys → Type 0
InOrder keys = IsStrictlySortedBy (slice_cmp nat_cmp) (keys_of keys)

-- each of some keys is below each of others
abbrev pub AreBelow : Keys → Keys → Type 0
AreBelow first others =
    AllByRecursion (λ o. AllByRecursion (λ e. slice_cmp nat_cmp e.0 o.0 ≡ Less) first) others

pub by_key_total : IsTotalOrder by_key
by_key_total = on_total (λ (e : Entry). e.0) nat_list_cmp_total

-- ---- all of a list
module _ {X : Type 0} (P : X → Type 0) where
  pub all-take : (n : ℕ) (xs : List X) → AllByRecursion P xs → AllByRecursion P (take n xs)
  all-take zero xs h = tt
  all-take (suc n) [] h = tt
  all-take (suc n) (x ∷ xs) h = (h.0, all-take n xs h.1)

  pub all-drop : (n : ℕ) (xs : List X) → AllByRecursion P xs → AllByRecursion P (drop n xs)
  all-drop zero xs h = h
  all-drop (suc n) [] h = tt
  all-drop (suc n) (x ∷ xs) h = all-drop n xs h.1

  pub all-append : (xs ys : List X) → AllByRecursion P xs → AllByRecursion P ys
      → AllByRecursion P (xs ++ ys)
  all-append [] ys h g = g
  all-append (x ∷ xs) ys h g = (h.0, all-append xs ys h.1 g)

  pub all-in_order : (cmp : X → X → Ordering) (xs : List X) → AllByRecursion P xs
      → AllByRecursion P (in_order cmp xs)
  all-in_order cmp [] h = tt
  all-in_order cmp (x ∷ xs) h = all-put cmp P x (in_order cmp xs) h.0 (all-in_order cmp xs h.1)

  pub all-map : (Q : X → Type 0) → ((x : X) → P x → Q x) → (xs : List X) → AllByRecursion P xs
      → AllByRecursion Q xs
  all-map Q f [] h = tt
  all-map Q f (x ∷ xs) h = (f x h.0, all-map Q f xs h.1)

  pub all-any : ((x : X) → P x) → (xs : List X) → AllByRecursion P xs
  all-any f [] = tt
  all-any f (x ∷ xs) = (f x, all-any f xs)

  -- what holds of all holds at each place
  pub all-at : (xs : List X) (i : ℕ) (x : X) → slice_get xs i ≡ Some x → AllByRecursion P xs → P x
  all-at [] i x is h = absurd cc
  all-at (y ∷ xs) zero x is h = subst (λ (o : Option X). by o) is h.0
    where
      by : Option X → Type 0
      by None = Unit {0}
      by (Some z) = P z
  all-at (y ∷ xs) (suc i) x is h = all-at xs i x is h.1

pub none_past : {X : Type 0} (xs : List X) (i : ℕ) → slice_get xs i ≡ None → length xs ≤ i
none_past [] i is = omega arith
none_past (x ∷ xs) zero is = absurd cc
none_past (x ∷ xs) (suc i) is = omega (arith, none_past xs i is)

pub all-both : {X : Type 0} (P Q : X → Type 0) (xs : List X) → AllByRecursion P xs
    → AllByRecursion Q xs → AllByRecursion (λ x. P x × Q x) xs
all-both P Q [] h g = tt
all-both P Q (x ∷ xs) h g = ((h.0, g.0), all-both P Q xs h.1 g.1)

-- ---- keys in order
pub heads : (key : List ℕ) (keys : Keys) → AllByRecursion (λ k. slice_cmp nat_cmp key k ≡ Less)
    (keys_of keys) → AllByRecursion (λ e. slice_cmp nat_cmp key e.0 ≡ Less) keys
heads key [] h = tt
heads key (e ∷ keys) h = (h.0, heads key keys h.1)

pub tails : (key : List ℕ) (keys : Keys) → AllByRecursion (λ e. slice_cmp nat_cmp key e.0 ≡ Less) keys
    → AllByRecursion (λ k. slice_cmp nat_cmp key k ≡ Less) (keys_of keys)
tails key [] h = tt
tails key (e ∷ keys) h = (h.0, tails key keys h.1)

pub below-drop : (n : ℕ) (keys : Keys) → InOrder keys → AreBelow (take n keys) (drop n keys)
unfolding IsStrictlySortedBy
below-drop zero keys h =
    all-any (λ (o : Entry). Unit {0}) (λ o. tt) keys
below-drop (suc n) [] h = tt
below-drop (suc n) (e ∷ keys) h =
    all-both (λ o. slice_cmp nat_cmp e.0 o.0 ≡ Less)
    (λ o. AllByRecursion (λ x. slice_cmp nat_cmp x.0 o.0 ≡ Less) (take n keys)) (drop n keys)
    (all-drop (λ o. slice_cmp nat_cmp e.0 o.0 ≡ Less) n keys (heads e.0 keys h.0))
    (below-drop n keys h.1)

pub in_order-take : (n : ℕ) (keys : Keys) → InOrder keys → InOrder (take n keys)
unfolding IsStrictlySortedBy
in_order-take zero keys h = tt
in_order-take (suc n) [] h = tt
in_order-take (suc n) (e ∷ keys) h = (
  tails e.0 (take n keys)
      (all-take (λ x. slice_cmp nat_cmp e.0 x.0 ≡ Less) n keys (heads e.0 keys h.0)),
  in_order-take n keys h.1,
)

pub in_order-append : (first others : Keys) → InOrder first → InOrder others → AreBelow first others
    → InOrder (first ++ others)
unfolding IsStrictlySortedBy
in_order-append [] others h g below = g
in_order-append (e ∷ first) others h g below = (
  tails e.0 (first ++ others)
      (all-append (λ x. slice_cmp nat_cmp e.0 x.0 ≡ Less) first others (heads e.0 first h.0)
      (all-map (λ o. (slice_cmp nat_cmp e.0 o.0 ≡ Less)
      × AllByRecursion (λ x. slice_cmp nat_cmp x.0 o.0 ≡ Less) first)
      (λ o. slice_cmp nat_cmp e.0 o.0 ≡ Less) (λ o b. b.0) others below)),
  in_order-append first others h.1 g
      (all-map (λ o. (slice_cmp nat_cmp e.0 o.0 ≡ Less)
      × AllByRecursion (λ x. slice_cmp nat_cmp x.0 o.0 ≡ Less) first)
      (λ o. AllByRecursion (λ x. slice_cmp nat_cmp x.0 o.0 ≡ Less) first) (λ o b. b.1) others
      below),
)

-- ---- keys that stand once
-- keys that stand once do so where some are left out
pub once-left : (first others : Keys) → AreOnce (first ++ others) → AreOnce first
unfolding IsDistinct
once-left [] others h = tt
once-left (e ∷ first) others h = (apart first h.0, once-left first others h.1)
  where
    apart : (first : Keys) → AllByRecursion (λ k. eq_by_cmp (slice_cmp nat_cmp) e.0 k ≡ false)
        (keys_of (first ++ others))
        → AllByRecursion (λ k. eq_by_cmp (slice_cmp nat_cmp) e.0 k ≡ false) (keys_of first)
    apart [] h = tt
    apart (x ∷ first) h = (h.0, apart first h.1)

pub once-moved : (keys others : Keys) → IsPermutation keys others → AreOnce keys → AreOnce others
once-moved keys others moved once =
    IsDistinct-IsPermutation (eq_by_cmp (slice_cmp nat_cmp))
    (eq_by_cmp_equiv nat_list_cmp_total).symm (keys_of keys) (keys_of others)
    (IsPermutation-map (λ (e : Entry). e.0) keys others moved) once

-- ---- keys that are put in order
pub filter-cond : {X : Type 0} (p : X → Bool) (b : Bool) (x : X) (xs : List X)
    → filter p (cond b (x ∷ xs) xs) ≡ cond b (filter p (x ∷ xs)) (filter p xs)
filter-cond p true x xs = refl
filter-cond p false x xs = refl

-- an entry more on both sides, if it passes
pub moved-more : (b : Bool) (x : Entry) (xs ys : Keys) → IsPermutation xs ys
    → IsPermutation (cond b (x ∷ xs) xs) (cond b (x ∷ ys) ys)
moved-more true x xs ys moved = IsPermutation-cons x xs ys moved
moved-more false x xs ys moved = moved

pub exchanged : (b c : Bool) (x y : Entry) (xs : Keys)
    → IsPermutation (cond b (x ∷ cond c (y ∷ xs) xs) (cond c (y ∷ xs) xs))
    (cond c (y ∷ cond b (x ∷ xs) xs) (cond b (x ∷ xs) xs))
exchanged true true x y xs = IsPermutation-middle (x ∷ []) y xs
exchanged true false x y xs = IsPermutation-refl (x ∷ xs)
exchanged false true x y xs = IsPermutation-refl (y ∷ xs)
exchanged false false x y xs = IsPermutation-refl xs

pub put-moved : (p : Entry → Bool) (x : Entry) (xs : Keys)
    → IsPermutation (filter p (x ∷ xs)) (filter p (put_in_order by_key x xs))
put-moved p x [] = IsPermutation-refl (filter p (x ∷ []))
put-moved p x (y ∷ ys) =
    elim (is_lt (by_key x y)) as (λ b. IsPermutation (filter p (x ∷ y ∷ ys))
    (filter p (cond b (x ∷ y ∷ ys) (y ∷ put_in_order by_key x ys)))) [
      | true ↦ IsPermutation-refl (filter p (x ∷ y ∷ ys))
      | false ↦ IsPermutation-trans (filter p (x ∷ y ∷ ys)) (filter p (y ∷ x ∷ ys))
          (filter p (y ∷ put_in_order by_key x ys))
          (exchanged (p x) (p y) x y (filter p ys))
          (moved-more (p y) y (filter p (x ∷ ys)) (filter p (put_in_order by_key x ys))
          (put-moved p x ys))
    ]

pub ordered-moved : (p : Entry → Bool) (xs : Keys)
    → IsPermutation (filter p xs) (filter p (in_order by_key xs))
ordered-moved p [] = IsPermutation-refl []
ordered-moved p (x ∷ xs) =
    IsPermutation-trans (filter p (x ∷ xs)) (filter p (x ∷ in_order by_key xs))
    (filter p (put_in_order by_key x (in_order by_key xs)))
    (moved-more (p x) x (filter p xs) (filter p (in_order by_key xs)) (ordered-moved p xs))
    (put-moved p x (in_order by_key xs))

pub every : (xs : Keys) → filter (λ x. true) xs ≡ xs
every [] = refl
every (x ∷ xs) = ap (λ (l : Keys). x ∷ l) (every xs)

pub all-moved : (xs : Keys) → IsPermutation xs (in_order by_key xs)
all-moved xs = subst (λ (l : Keys). IsPermutation l (in_order by_key xs)) (every xs)
    (subst (λ (l : Keys). IsPermutation (filter (λ x. true) xs) l) (every (in_order by_key xs))
    (ordered-moved (λ x. true) xs))

pub untied : (xs : Keys) → AreOnce xs → Untied by_key xs
unfolding IsDistinct
untied [] h = tt
untied (x ∷ xs) h = (apart xs h.0, untied xs h.1)
  where
    apart : (xs : Keys) → AllByRecursion (λ k. eq_by_cmp (slice_cmp nat_cmp) x.0 k ≡ false)
        (keys_of xs) → AllByRecursion (λ y. is_eq (by_key x y) ≡ false) xs
    apart [] h = tt
    apart (y ∷ xs) h = (h.0, apart xs h.1)

pub keys_sorted : (xs : Keys) → IsStrictlySortedBy by_key xs → InOrder xs
unfolding IsStrictlySortedBy
keys_sorted [] h = tt
keys_sorted (x ∷ xs) h = (tails x.0 xs h.0, keys_sorted xs h.1)

pub ordered : (xs : Keys) → AreOnce xs → InOrder (in_order by_key xs)
ordered xs once = keys_sorted (in_order by_key xs) (sorted-in_order by_key_total xs (untied xs once))

-- keys in order that are the same in some order are the same
pub only_order : (xs ys : Keys) → InOrder xs → InOrder ys → IsPermutation xs ys → xs ≡ ys
only_order xs ys h g moved =
    same_lookups (slice_cmp nat_cmp) nat_list_cmp_total exact_bytes xs ys
    (sorted_from (slice_cmp nat_cmp) xs h) (sorted_from (slice_cmp nat_cmp) ys g)
    (λ q. alike xs ys q moved (IsDistinct-from_sorted (slice_cmp nat_cmp) (keys_of xs) h)
    (IsDistinct-from_sorted (slice_cmp nat_cmp) (keys_of ys) g))
