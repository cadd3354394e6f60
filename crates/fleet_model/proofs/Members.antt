-- What is among a list, and lists in order with the same members.
use Rattle.std.proofs.Common.{◌≡◌, Bool, true, false, cond, ◌&&◌, ◌||◌, List, [], ◌∷◌, map, None}
use Rattle.std.proofs.Common.{Some, T, refl, sym, ap, ◌∙◌, subst}
use Rattle.std.specs.BTreeMap.{is_at}
use Rattle.std.specs.Cmp.{IsTotalOrder, alike_right}
use Rattle.std.specs.FinMap.Entries.{below_all, is_sorted}
use Rattle.std.specs.List.{AllByRecursion, dedup, dedup_from, filter, list_any}
use Rattle.std.specs.List.Sorted.{IsStrictlySortedBy}
use Rattle.std.specs.Map.{keys_of, lookup}
use Rattle.std.specs.Ordering.{is_eq, is_gt, is_lt, ordering_reverse}
use Rattle.std.specs.declared.cmp.Ordering.{Ordering}
use Rattle.std.specs.declared.cmp.Ordering.TheVariants.{Less, Equal, Greater}
use Rattle.fleet_model.proofs.Bools.{and_no, both}
use Rattle.fleet_model.proofs.Entries.{equal_from, same_lookups}

pub any-map : {X Y : Type 0} (p : Y → Bool) (f : X → Y) (xs : List X)
    → list_any p (map f xs) ≡ list_any (λ x. p (f x)) xs
any-map p f [] = refl
any-map p f (x ∷ xs) = ap (λ b. p (f x) || b) (any-map p f xs)

and_yes : (a : Bool) → (a && true) ≡ a
and_yes true = refl
and_yes false = refl

one_filtered : (here keeps wanted rest : Bool) → (here ≡ true → keeps ≡ wanted)
    → cond keeps (here || (rest && wanted)) (rest && wanted) ≡ ((here || rest) && wanted)
one_filtered true true wanted rest h = h refl
one_filtered true false wanted rest h = ap (λ b. rest && b) (sym (h refl)) ∙ and_no rest ∙ h refl
one_filtered false true wanted rest h = refl
one_filtered false false wanted rest h = refl

twice : (a b : Bool) → (a || b) ≡ (a || (a || b))
twice true b = refl
twice false b = refl

module _ {K : Type 0} (R : K → K → Ordering) where
  abbrev pub among : K → List K → Bool
  among q xs = list_any (λ x. is_eq (R q x)) xs

  abbrev pub UpFrom : K → List K → Type 0
  UpFrom k xs = AllByRecursion (λ y. is_gt (R k y) ≡ false) xs

  -- no key is above a later one
  abbrev pub Rises : List K → Type 0
  Rises [] = Unit {0}
  Rises (x ∷ xs) = UpFrom x xs × Rises xs

  less : (o : Ordering) → o ≡ Less → T (is_lt o)
  less o e = subst (λ o. T (is_lt o)) (sym e) tt

  abbrev marked : List K → List (K × Bool)
  marked xs = map (λ x. (x, true)) xs

  marked_below : (x : K) (xs : List K) → AllByRecursion (λ y. R x y ≡ Less) xs
      → T (below_all R x (marked xs))
  marked_below x [] h = tt
  marked_below x (y ∷ ys) h = both _ _ (less (R x y) h.0) (marked_below x ys h.1)

  marked_sorted : (xs : List K) → IsStrictlySortedBy R xs → T (is_sorted R (marked xs))
  unfolding IsStrictlySortedBy
  marked_sorted [] h = tt
  marked_sorted (x ∷ xs) h = both _ _ (marked_below x xs h.0) (marked_sorted xs h.1)

  marked_found : (q : K) (xs : List K) → lookup (is_at (R q)) (marked xs)
      ≡ cond (among q xs) (Some true) None
  marked_found q [] = refl
  marked_found q (x ∷ xs) = elim (is_eq (R q x)) as
      (λ b. cond b (Some true) (lookup (is_at (R q)) (marked xs)) ≡ cond (b || among q xs)
      (Some true) None) [ true ↦ refl | false ↦ marked_found q xs ]

  marked_keys : (xs : List K) → keys_of (marked xs) ≡ xs
  marked_keys [] = refl
  marked_keys (x ∷ xs) = ap (λ rest. x ∷ rest) (marked_keys xs)

  module _ (o : IsTotalOrder R) (exact : (x y : K) → R x y ≡ Equal → x ≡ y) where
    -- lists in order with the same members are equal
    pub same_members : (xs ys : List K) → IsStrictlySortedBy R xs → IsStrictlySortedBy R ys
        → ((q : K) → among q xs ≡ among q ys) → xs ≡ ys
    same_members xs ys g h is =
        sym (marked_keys xs)
        ∙ ap keys_of (same_lookups R o exact (marked xs) (marked ys) (marked_sorted xs g)
        (marked_sorted ys h)
        (λ q. marked_found q xs ∙ ap (λ b. cond b (Some true) None) (is q)
        ∙ sym (marked_found q ys)))
        ∙ marked_keys ys

    pub among-filter : (q : K) (p : K → Bool) (xs : List K)
        → among q (filter p xs) ≡ (among q xs && p q)
    among-filter q p [] = refl
    among-filter q p (x ∷ xs) =
        pushed (p x) ∙ ap (λ b. cond (p x) (is_eq (R q x) || b) b) (among-filter q p xs)
        ∙ one_filtered (is_eq (R q x)) (p x) (p q) (among q xs)
        (λ e. ap p (sym (exact q x (equal_from _ e))))
      where
        pushed : (b : Bool) → among q (cond b (x ∷ filter p xs) (filter p xs))
            ≡ cond b (is_eq (R q x) || among q (filter p xs)) (among q (filter p xs))
        pushed true = refl
        pushed false = refl

    -- `dedup` with a test that tells all keys apart
    module _ (same : K → K → Bool) (ties : (x y : K) → same x y ≡ is_eq (R x y)) where
      among-dedup_from : (q k : K) (xs : List K) → among q (dedup_from same k xs)
          ≡ (is_eq (R q k) || among q xs)
      among-dedup_from q k [] = refl
      among-dedup_from q k (x ∷ xs) =
          elim (same x k) as (λ b. same x k ≡ b
          → among q (cond b (dedup_from same k xs) (k ∷ dedup_from same x xs))
          ≡ (is_eq (R q k) || (is_eq (R q x) || among q xs))) [
            | true ↦ λ e. among-dedup_from q k xs
                ∙ twice (is_eq (R q k)) (among q xs)
                ∙ ap (λ y. is_eq (R q k) || (is_eq (R q y) || among q xs))
                (sym (exact x k (equal_from _ (sym (ties x k) ∙ e))))
            | false ↦ λ e. ap (λ b. is_eq (R q k) || b) (among-dedup_from q x xs)
          ] refl

      pub among-dedup : (q : K) (xs : List K) → among q (dedup same xs) ≡ among q xs
      among-dedup q [] = refl
      among-dedup q (x ∷ xs) = among-dedup_from q x xs

      before : (k x : K) → same x k ≡ false → is_gt (R k x) ≡ false → R k x ≡ Less
      before k x apart up = less_of (R k x) (ap is_eq (o.antisymm k x) ∙ turned (R x k)
          ∙ sym (ties x k) ∙ apart) up
        where
          turned : (r : Ordering) → is_eq (ordering_reverse r) ≡ is_eq r
          turned Less = refl
          turned Equal = refl
          turned Greater = refl

          less_of : (r : Ordering) → is_eq r ≡ false → is_gt r ≡ false → r ≡ Less
          less_of Less e g = refl
          less_of Equal e g = absurd (subst T e tt)
          less_of Greater e g = absurd (subst T g tt)

      less_upto : (k x y : K) → R k x ≡ Less → is_gt (R x y) ≡ false → R k y ≡ Less
      less_upto k x y less up =
          elim (R x y) as (λ r. R x y ≡ r → is_gt r ≡ false → R k y ≡ Less) [
            | Less ↦ λ e g. o.trans k x y less e
            | Equal ↦ λ e g. sym (alike_right o x y k e) ∙ less
            | Greater ↦ λ e g. absurd (subst T g tt)
          ] refl up

      above : (k x : K) (xs : List K) → R k x ≡ Less → UpFrom x xs → Rises xs
          → AllByRecursion (λ y. R k y ≡ Less) (dedup_from same x xs)
      above k x [] less up rises = (less, tt)
      above k x (y ∷ ys) less up rises =
          elim (same y x) as (λ b. AllByRecursion (λ y. R k y ≡ Less)
          (cond b (dedup_from same x ys) (x ∷ dedup_from same y ys))) [
            | true ↦ above k x ys less up.1 rises.1
            | false ↦ (less, above k y ys (less_upto k x y less up.0) rises.0 rises.1)
          ]

      sorted-dedup_from : (k : K) (xs : List K) → UpFrom k xs → Rises xs
          → IsStrictlySortedBy R (dedup_from same k xs)
      unfolding IsStrictlySortedBy
      sorted-dedup_from k [] up rises = (tt, tt)
      sorted-dedup_from k (x ∷ xs) up rises =
          elim (same x k) as (λ b. same x k ≡ b
          → IsStrictlySortedBy R (cond b (dedup_from same k xs) (k ∷ dedup_from same x xs))) [
            | true ↦ λ e. sorted-dedup_from k xs up.1 rises.1
            | false ↦ λ e. (
              above k x xs (before k x e up.0) rises.0 rises.1,
              sorted-dedup_from x xs rises.0 rises.1,
            )
          ] refl

      -- of keys that rise each is kept once
      pub sorted-dedup : (xs : List K) → Rises xs → IsStrictlySortedBy R (dedup same xs)
      unfolding IsStrictlySortedBy
      sorted-dedup [] rises = tt
      sorted-dedup (x ∷ xs) rises = sorted-dedup_from x xs rises.0 rises.1
