-- Lists of entries in the order of their keys, of which each is what a look-up finds.
use Rattle.std.proofs.Common.{◌≡◌, Bool, true, false, cond, not, ◌||◌, List, [], ◌∷◌, ◌++◌, Some}
use Rattle.std.proofs.Common.{refl, sym, ap, ◌∙◌}
use Rattle.std.specs.Prelude.{filter, map}
use Rattle.std.specs.BTreeMap.{insert_entry, is_at}
use Rattle.std.specs.BTreeSet.{insert_key}
use Rattle.std.specs.Cmp.{IsTotalOrder}
use Rattle.std.specs.List.{AllByRecursion, list_any}
use Rattle.std.specs.List.Sorted.{IsStrictlySortedBy}
use Rattle.std.specs.Map.{keys_of, lookup, remove_entry}
use Rattle.std.specs.Ordering.{is_eq, match_ordering, ordering_reverse}
use Rattle.std.specs.declared.cmp.Ordering.{Ordering}
use Rattle.std.specs.declared.cmp.Ordering.TheVariants.{Less, Equal, Greater}
use Rattle.std.proofs.lemmas.Cmp.{tied_itself}

pub all-append : {X : Type 0} (P : X → Type 0) (xs ys : List X) → AllByRecursion P xs
    → AllByRecursion P ys → AllByRecursion P (xs ++ ys)
all-append P [] ys front back = back
all-append P (x ∷ xs) ys front back = (front.0, all-append P xs ys front.1 back)

-- what holds of all, of those that a filter lets through, with the test
pub all-filter : {X : Type 0} (P Q : X → Type 0) (p : X → Bool) → ((x : X) → p x ≡ true → P x → Q x)
    → (xs : List X) → AllByRecursion P xs → AllByRecursion Q (filter p xs)
all-filter P Q p gives [] all = tt
all-filter P Q p gives (x ∷ xs) all = by (p x) refl (all-filter P Q p gives xs all.1)
  where
    by : (b : Bool) → p x ≡ b → AllByRecursion Q (filter p xs)
        → AllByRecursion Q (cond b (x ∷ filter p xs) (filter p xs))
    by true is more = (gives x is all.0, more)
    by false is more = more

pub all-map : {X : Type 0} (P Q : X → Type 0) → ((x : X) → P x → Q x) → (xs : List X)
    → AllByRecursion P xs → AllByRecursion Q xs
all-map P Q gives [] all = tt
all-map P Q gives (x ∷ xs) all = (gives x all.0, all-map P Q gives xs all.1)

-- a filter that lets all through
pub filter-all : {X : Type 0} (p : X → Bool) (xs : List X) → AllByRecursion (λ x. p x ≡ true) xs
    → filter p xs ≡ xs
filter-all p [] all = refl
filter-all p (x ∷ xs) all = rw all.0 (ap (λ ys. x ∷ ys) (filter-all p xs all.1))

pub same_filters : {X : Type 0} (p q : X → Bool) (xs : List X) → AllByRecursion (λ x. p x ≡ q x) xs
    → filter p xs ≡ filter q xs
same_filters p q [] all = refl
same_filters p q (x ∷ xs) all =
    rw all.0 (ap (λ ys. cond (q x) (x ∷ ys) ys) (same_filters p q xs all.1))

-- a test of more items
pub any_more : {X : Type 0} (p : X → Bool) (xs ys zs : List X)
    → (list_any p ys ≡ true → list_any p zs ≡ true) → list_any p (xs ++ ys) ≡ true
    → list_any p (xs ++ zs) ≡ true
any_more p [] ys zs gives found = gives found
any_more p (x ∷ xs) ys zs gives found = by (any_more p xs ys zs gives) (p x) found
  where
    by : (list_any p (xs ++ ys) ≡ true → list_any p (xs ++ zs) ≡ true) → (b : Bool)
        → (b || list_any p (xs ++ ys)) ≡ true → (b || list_any p (xs ++ zs)) ≡ true
    by more true either = refl
    by more false either = more either

module _ {K : Type 0} (C : K → K → Ordering) where
  pub any-insert_key : (p : K → Bool) (ks : List K) (k : K) → list_any p ks ≡ true
      → list_any p (insert_key C ks k) ≡ true
  any-insert_key p [] k found = cc
  any-insert_key p (x ∷ xs) k found = by (C k x) (any-insert_key p xs k)
    where
      or_right : (a b : Bool) → b ≡ true → (a || b) ≡ true
      or_right true b h = refl
      or_right false b h = h

      weaker : (a b c : Bool) → (b ≡ true → c ≡ true) → (a || b) ≡ true → (a || c) ≡ true
      weaker true b c gives h = refl
      weaker false b c gives h = gives h

      by : (r : Ordering) → (list_any p xs ≡ true → list_any p (insert_key C xs k) ≡ true)
          → list_any p (match_ordering r (k ∷ x ∷ xs) (x ∷ xs) (x ∷ insert_key C xs k)) ≡ true
      by Less more = or_right (p k) _ found
      by Equal more = found
      by Greater more = weaker (p x) _ _ more found

  pub own-insert_key : (exact : (x y : K) → C x y ≡ Equal → x ≡ y) (p : K → Bool) (ks : List K)
      (k : K) → p k ≡ true → list_any p (insert_key C ks k) ≡ true
  own-insert_key exact p [] k here = rw here refl
  own-insert_key exact p (x ∷ xs) k here = by (C k x) refl (own-insert_key exact p xs k here)
    where
      or_right : (a b : Bool) → b ≡ true → (a || b) ≡ true
      or_right true b h = refl
      or_right false b h = h

      by : (r : Ordering) → C k x ≡ r → list_any p (insert_key C xs k) ≡ true
          → list_any p (match_ordering r (k ∷ x ∷ xs) (x ∷ xs) (x ∷ insert_key C xs k)) ≡ true
      by Less is more = rw here refl
      by Equal is more = rw (← exact k x is, here) refl
      by Greater is more = or_right (p x) _ more

  pub all-insert_key : (P : K → Type 0) (ks : List K) (k : K) → AllByRecursion P ks → P k
      → AllByRecursion P (insert_key C ks k)
  all-insert_key P [] k all here = (here, tt)
  all-insert_key P (x ∷ xs) k all here = by (C k x) (all-insert_key P xs k all.1 here)
    where
      by : (r : Ordering) → AllByRecursion P (insert_key C xs k)
          → AllByRecursion P (match_ordering r (k ∷ x ∷ xs) (x ∷ xs) (x ∷ insert_key C xs k))
      by Less more = (here, all)
      by Equal more = all
      by Greater more = (all.0, more)

module _ {K X : Type 0} (C : K → K → Ordering) where
  -- one more entry, whose key may be one that is there
  pub all-insert_entry : (P : K × X → Type 0) (es : List (K × X)) (k : K) (v : X)
      → AllByRecursion P es → ((q : K) → C k q ≡ Equal → P (q, v)) → P (k, v)
      → AllByRecursion P (insert_entry C es k v)
  all-insert_entry P [] k v all same here = (here, tt)
  all-insert_entry P (e ∷ es) k v all same here =
      by (C k e.0) refl (all-insert_entry P es k v all.1 same here)
    where
      by : (r : Ordering) → C k e.0 ≡ r → AllByRecursion P (insert_entry C es k v)
          → AllByRecursion P (match_ordering r ((k, v) ∷ e ∷ es) ((e.0, v) ∷ es)
          (e ∷ insert_entry C es k v))
      by Less is more = (here, all)
      by Equal is more = (same e.0 is, all.1)
      by Greater is more = (all.0, more)

  pub all-remove_entry : (P : K × X → Type 0) (test : K → Bool) (es : List (K × X))
      → AllByRecursion P es → AllByRecursion P (remove_entry test es)
  all-remove_entry P test [] all = tt
  all-remove_entry P test (e ∷ es) all = by (test e.0) (all-remove_entry P test es all.1)
    where
      by : (b : Bool) → AllByRecursion P (remove_entry test es)
          → AllByRecursion P (cond b es (e ∷ remove_entry test es))
      by true more = all.1
      by false more = (all.0, more)

  -- a look-up finds each entry by its key
  pub all_found : IsTotalOrder C → (es : List (K × X)) → IsStrictlySortedBy C (keys_of es)
      → AllByRecursion (λ e. lookup (is_at (C e.0)) es ≡ Some e.1) es
  unfolding IsStrictlySortedBy
  all_found o [] s = tt
  all_found o (e ∷ es) s = (rw (tied_itself o e.0) refl, behind es s.0 (all_found o es s.1))
    where
      behind : (fs : List (K × X)) → AllByRecursion (λ y. C e.0 y ≡ Less) (keys_of fs)
          → AllByRecursion (λ f. lookup (is_at (C f.0)) es ≡ Some f.1) fs
          → AllByRecursion (λ f. lookup (is_at (C f.0)) (e ∷ es) ≡ Some f.1) fs
      behind [] below found = tt
      behind (f ∷ fs) below found =
          let above : C f.0 e.0 ≡ Greater = o.antisymm f.0 e.0 ∙ ap ordering_reverse below.0 in
          (rw above found.0, behind fs below.1 found.1)

  -- entries as they are shown
  pub map-insert_entry : {Y : Type 0} (f : X → Y) (es : List (K × X)) (k : K) (v : X)
      → map (λ e. (e.0, f e.1)) (insert_entry C es k v)
      ≡ insert_entry C (map (λ e. (e.0, f e.1)) es) k (f v)
  map-insert_entry f [] k v = refl
  map-insert_entry f (e ∷ es) k v = by (map-insert_entry f es k v) (C k e.0)
    where
      by : map (λ e. (e.0, f e.1)) (insert_entry C es k v)
          ≡ insert_entry C (map (λ e. (e.0, f e.1)) es) k (f v) → (r : Ordering)
          → map (λ e. (e.0, f e.1)) (match_ordering r ((k, v) ∷ e ∷ es) ((e.0, v) ∷ es)
          (e ∷ insert_entry C es k v)) ≡ match_ordering r
          ((k, f v) ∷ (e.0, f e.1) ∷ map (λ e. (e.0, f e.1)) es)
          ((e.0, f v) ∷ map (λ e. (e.0, f e.1)) es)
          ((e.0, f e.1) ∷ insert_entry C (map (λ e. (e.0, f e.1)) es) k (f v))
      by more Less = refl
      by more Equal = refl
      by more Greater = ap (λ fs. (e.0, f e.1) ∷ fs) more

  pub map-remove_entry : {Y : Type 0} (f : X → Y) (test : K → Bool) (es : List (K × X))
      → map (λ e. (e.0, f e.1)) (remove_entry test es)
      ≡ remove_entry test (map (λ e. (e.0, f e.1)) es)
  map-remove_entry f test [] = refl
  map-remove_entry f test (e ∷ es) = by (test e.0) (map-remove_entry f test es)
    where
      by : (b : Bool) → map (λ e. (e.0, f e.1)) (remove_entry test es)
          ≡ remove_entry test (map (λ e. (e.0, f e.1)) es)
          → map (λ e. (e.0, f e.1)) (cond b es (e ∷ remove_entry test es))
          ≡ cond b (map (λ e. (e.0, f e.1)) es)
          ((e.0, f e.1) ∷ remove_entry test (map (λ e. (e.0, f e.1)) es))
      by true more = refl
      by false more = ap (λ fs. (e.0, f e.1) ∷ fs) more

  -- an entry taken away by its key is one that a filter doesn't let through
  pub remove-filter : IsTotalOrder C → (k : K) (es : List (K × X))
      → IsStrictlySortedBy C (keys_of es) → remove_entry (is_at (C k)) es
      ≡ filter (λ e. not (is_eq (C k e.0))) es
  unfolding IsStrictlySortedBy
  remove-filter o k [] s = refl
  remove-filter o k (e ∷ es) s = by (remove-filter o k es s.1) (C k e.0) refl
    where
      apart : C k e.0 ≡ Equal → (fs : List (K × X))
          → AllByRecursion (λ y. C e.0 y ≡ Less) (keys_of fs)
          → AllByRecursion (λ f. not (is_eq (C k f.0)) ≡ true) fs
      apart same [] below = tt
      apart same (f ∷ fs) below = (
        ap (λ r. not (is_eq r)) (o.congr k e.0 f.0 same ∙ below.0),
        apart same fs below.1,
      )

      by : remove_entry (is_at (C k)) es ≡ filter (λ e. not (is_eq (C k e.0))) es → (r : Ordering)
          → C k e.0 ≡ r → cond (is_eq r) es (e ∷ remove_entry (is_at (C k)) es)
          ≡ cond (not (is_eq r)) (e ∷ filter (λ e. not (is_eq (C k e.0))) es)
          (filter (λ e. not (is_eq (C k e.0))) es)
      by more Less is = ap (λ fs. e ∷ fs) more
      by more Equal is = sym (filter-all (λ e. not (is_eq (C k e.0))) es (apart is es s.0))
      by more Greater is = ap (λ fs. e ∷ fs) more

  -- entries in order stay so when some go
  pub sorted-filter : (p : K × X → Bool) (es : List (K × X)) → IsStrictlySortedBy C (keys_of es)
      → IsStrictlySortedBy C (keys_of (filter p es))
  unfolding IsStrictlySortedBy
  sorted-filter p [] s = s
  sorted-filter p (e ∷ es) s = by (p e) (below es s.0) (sorted-filter p es s.1)
    where
      cut : (b : Bool) (f : K × X) (fs : List (K × X)) → C e.0 f.0 ≡ Less
          → AllByRecursion (λ y. C e.0 y ≡ Less) (keys_of fs)
          → AllByRecursion (λ y. C e.0 y ≡ Less) (keys_of (cond b (f ∷ fs) fs))
      cut true f fs here more = (here, more)
      cut false f fs here more = more

      below : (fs : List (K × X)) → AllByRecursion (λ y. C e.0 y ≡ Less) (keys_of fs)
          → AllByRecursion (λ y. C e.0 y ≡ Less) (keys_of (filter p fs))
      below [] less = tt
      below (f ∷ fs) less = cut (p f) f (filter p fs) less.0 (below fs less.1)

      by : (b : Bool) → AllByRecursion (λ y. C e.0 y ≡ Less) (keys_of (filter p es))
          → IsStrictlySortedBy C (keys_of (filter p es))
          → IsStrictlySortedBy C (keys_of (cond b (e ∷ filter p es) (filter p es)))
      by true less more = (less, more)
      by false less more = more

  -- what holds of each entry holds of the one that is found
  pub all-at : (exact : (x y : K) → C x y ≡ Equal → x ≡ y) (P : K × X → Type 0) (es : List (K × X))
      (k : K) (v : X) → AllByRecursion P es → lookup (is_at (C k)) es ≡ Some v → P (k, v)
  all-at exact P [] k v all found = cc
  all-at exact P (e ∷ es) k v all found = by (C k e.0) refl (all-at exact P es k v all.1) found
    where
      by : (r : Ordering) → C k e.0 ≡ r → (lookup (is_at (C k)) es ≡ Some v → P (k, v))
          → cond (is_eq r) (Some e.1) (lookup (is_at (C k)) es) ≡ Some v → P (k, v)
      by Less is more found = more found
      by Equal is more found =
          let key : k ≡ e.0 = exact k e.0 is in
          let value : e.1 ≡ v = cc in
          rw (key, ← value) all.0
      by Greater is more found = more found
