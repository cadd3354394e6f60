-- What holds of each entry, and the order of entries, as entries come and go.
use Rattle.std.proofs.Common.{◌≡◌, Bool, true, false, cond, ◌&&◌, List, [], ◌∷◌, T, refl, sym}
use Rattle.std.proofs.Common.{subst}
use Rattle.std.specs.BTreeMap.{insert_entry, is_at}
use Rattle.std.specs.Cmp.{IsTotalOrder}
use Rattle.std.specs.FinMap.Entries.{below_all, is_sorted}
use Rattle.std.specs.List.{AllByRecursion, filter}
use Rattle.std.specs.List.Sorted.{IsStrictlySortedBy}
use Rattle.std.specs.Map.{keys_of, remove_entry}
use Rattle.std.specs.Ordering.{is_lt, match_ordering}
use Rattle.std.specs.declared.cmp.Ordering.{Ordering}
use Rattle.std.specs.declared.cmp.Ordering.TheVariants.{Less, Equal, Greater}
use Rattle.fleet_model.proofs.Bools.{both}
use Rattle.fleet_model.proofs.Entries.{remove_is, sorted-filter, sorted-insert}
use Rattle.fleet_model.proofs.Order.{sorted_keys}

-- ---- what holds of each
pub every-map : {X : Type 0} (P Q : X → Type 0) → ((x : X) → P x → Q x) → (xs : List X)
    → AllByRecursion P xs → AllByRecursion Q xs
every-map P Q step [] h = tt
every-map P Q step (x ∷ xs) h = (step x h.0, every-map P Q step xs h.1)

pub every-filter : {X : Type 0} (P : X → Type 0) (p : X → Bool) (xs : List X) → AllByRecursion P xs
    → AllByRecursion P (filter p xs)
every-filter P p [] h = tt
every-filter P p (x ∷ xs) h = elim (p x) as
    (λ b. AllByRecursion P (cond b (x ∷ filter p xs) (filter p xs))) [
      | true ↦
          (h.0, every-filter P p xs h.1)
      | false ↦ every-filter P p xs h.1
    ]

-- each that a filter keeps passes its test
pub every-passes : {X : Type 0} (p : X → Bool) (xs : List X)
    → AllByRecursion (λ x. p x ≡ true) (filter p xs)
every-passes p [] = tt
every-passes {X} p (x ∷ xs) = elim (p x) as (λ b. p x ≡ b
    → AllByRecursion (λ y. p y ≡ true) (cond b (x ∷ filter p xs) (filter p xs))) [
      | true ↦
          λ is. (is, every-passes p xs)
      | false ↦ λ is. every-passes p xs
    ] refl

pub every-insert : {K X : Type 0} (P : K × X → Type 0) (R : K → K → Ordering)
    → ((x y : K) → R x y ≡ Equal → x ≡ y) → (es : List (K × X)) (k : K) (v : X)
    → AllByRecursion P es → P (k, v) → AllByRecursion P (insert_entry R es k v)
every-insert P R exact [] k v h own = (own, tt)
every-insert P R exact (e ∷ es) k v h own =
    elim (R k e.0) as (λ r. R k e.0 ≡ r
    → AllByRecursion P (match_ordering r ((k, v) ∷ e ∷ es) ((e.0, v) ∷ es)
    (e ∷ insert_entry R es k v))) [
      | Less ↦ λ is. (own, h)
      | Equal ↦ λ is. (subst (λ q. P (q, v)) (exact k e.0 is) own, h.1)
      | Greater ↦ λ is. (h.0, every-insert P R exact es k v h.1 own)
    ] refl

pub every-remove : {K X : Type 0} (P : K × X → Type 0) (test : K → Bool) (es : List (K × X))
    → AllByRecursion P es → AllByRecursion P (remove_entry test es)
every-remove P test [] h = tt
every-remove P test (e ∷ es) h =
    elim (test e.0) as (λ b. AllByRecursion P (cond b es (e ∷ remove_entry test es))) [
      | true ↦ h.1
      | false ↦ (h.0, every-remove P test es h.1)
    ]

-- ---- the order
module _ {K X : Type 0} (R : K → K → Ordering) where
  below_from : (x : K) (es : List (K × X)) → AllByRecursion (λ y. R x y ≡ Less) (keys_of es)
      → T (below_all R x es)
  below_from x [] h = tt
  below_from x (e ∷ es) h = both (is_lt (R x e.0)) (below_all R x es)
      (subst (λ o. T (is_lt o)) (sym h.0) tt) (below_from x es h.1)

  -- entries whose keys are in order
  pub sorted_from : (es : List (K × X)) → IsStrictlySortedBy R (keys_of es) → T (is_sorted R es)
  unfolding IsStrictlySortedBy
  sorted_from [] h = tt
  sorted_from (e ∷ es) h = both (below_all R e.0 es) (is_sorted R es) (below_from e.0 es h.0)
      (sorted_from es h.1)

  pub ordered-filter : (p : K × X → Bool) (es : List (K × X)) → IsStrictlySortedBy R (keys_of es)
      → IsStrictlySortedBy R (keys_of (filter p es))
  ordered-filter p es h = sorted_keys R (filter p es) (sorted-filter R p es (sorted_from es h))

  module _ (o : IsTotalOrder R) (exact : (x y : K) → R x y ≡ Equal → x ≡ y) where
    pub ordered-insert : (es : List (K × X)) (k : K) (v : X) → IsStrictlySortedBy R (keys_of es)
        → IsStrictlySortedBy R (keys_of (insert_entry R es k v))
    ordered-insert es k v h = sorted_keys R (insert_entry R es k v)
        (sorted-insert R o exact es k v (sorted_from es h))

    pub ordered-remove : (es : List (K × X)) (k : K) → IsStrictlySortedBy R (keys_of es)
        → IsStrictlySortedBy R (keys_of (remove_entry (is_at (R k)) es))
    ordered-remove es k h = subst (λ fs. IsStrictlySortedBy R (keys_of fs))
        (sym (remove_is R o exact k es (sorted_from es h))) (ordered-filter _ es h)
