-- Entries in the order of their keys, and one more among them.
use Rattle.std.proofs.Common.{◌≡◌, Bool, true, false, cond, List, [], ◌∷◌, ◌++◌, refl, ◌∙◌, ap}
use Rattle.std.specs.Prelude.{Some, None, filter}
use Rattle.std.specs.declared.cmp.Ordering.{Ordering}
use Rattle.std.specs.declared.cmp.Ordering.TheVariants.{Less, Equal, Greater}
use Rattle.std.specs.Ordering.{match_ordering, ordering_reverse, is_eq}
use Rattle.std.specs.Cmp.{IsTotalOrder}
use Rattle.std.specs.Map.{keys_of, lookup, remove_entry}
use Rattle.std.specs.BTreeMap.{insert_entry, is_at}
use Rattle.std.specs.List.{AllByRecursion}
use Rattle.std.specs.List.Sorted.{IsStrictlySortedBy}
use Rattle.std.proofs.lemmas.Map.{NonePasses, lookup-none}

-- what is below one side is above the other
pub turned : {K : Type 0} {C : K → K → Ordering} → IsTotalOrder C → (x y : K) → C x y ≡ Greater
    → C y x ≡ Less
turned o x y above = o.antisymm y x ∙ ap ordering_reverse above

module _ {K X : Type 0} (C : K → K → Ordering) where
  -- each key is above k
  abbrev pub AllAbove : K → List (K × X) → Type 0
  AllAbove k es = AllByRecursion (λ y. C k y ≡ Less) (keys_of es)

  -- each key is below k
  abbrev pub AllBelow : K → List (K × X) → Type 0
  AllBelow k es = AllByRecursion (λ y. C k y ≡ Greater) (keys_of es)

  pub AllAbove-append : (k : K) (xs ys : List (K × X)) → AllAbove k xs → AllAbove k ys
      → AllAbove k (xs ++ ys)
  AllAbove-append k [] ys f g = g
  AllAbove-append k (x ∷ xs) ys f g = (f.0, AllAbove-append k xs ys f.1 g)

  -- what is below k is below all that is above k
  pub AllAbove-below : IsTotalOrder C → (j k : K) → C j k ≡ Less → (es : List (K × X))
      → AllAbove k es → AllAbove j es
  AllAbove-below o j k less [] f = tt
  AllAbove-below o j k less (e ∷ es) f =
      (o.trans j k e.0 less f.0, AllAbove-below o j k less es f.1)

  none_above : (k : K) (es : List (K × X)) → AllAbove k es → NonePasses (is_at (C k)) es
  none_above k [] f = tt
  none_above k (e ∷ es) f = (ap is_eq f.0, none_above k es f.1)

  -- a key below all others isn't found
  pub lookup-above : (k : K) (es : List (K × X)) → AllAbove k es → lookup (is_at (C k)) es ≡ None
  lookup-above k es f = lookup-none (is_at (C k)) es (none_above k es f)

  -- a key below all others goes first
  pub insert_entry-above : (es : List (K × X)) (k : K) (v : X) → AllAbove k es
      → insert_entry C es k v ≡ (k, v) ∷ es
  insert_entry-above [] k v f = refl
  insert_entry-above (e ∷ es) k v f = rw f.0

  -- an entry below all of ys goes into what stands before them
  pub insert_entry-append_left : (xs ys : List (K × X)) (k : K) (v : X) → AllAbove k ys
      → insert_entry C (xs ++ ys) k v ≡ insert_entry C xs k v ++ ys
  insert_entry-append_left [] ys k v f = insert_entry-above ys k v f
  insert_entry-append_left (x ∷ xs) ys k v f = by (insert_entry-append_left xs ys k v f) (C k x.0)
    where
      by : insert_entry C (xs ++ ys) k v ≡ insert_entry C xs k v ++ ys → (o : Ordering)
          → match_ordering o ((k, v) ∷ x ∷ (xs ++ ys)) ((x.0, v) ∷ (xs ++ ys))
          (x ∷ insert_entry C (xs ++ ys) k v) ≡ match_ordering o ((k, v) ∷ x ∷ xs) ((x.0, v) ∷ xs)
          (x ∷ insert_entry C xs k v) ++ ys
      by more Less = refl
      by more Equal = refl
      by more Greater = ap (λ es. x ∷ es) more

  -- an entry above all of xs goes into what stands after them
  pub insert_entry-append_right : (xs ys : List (K × X)) (k : K) (v : X) → AllBelow k xs
      → insert_entry C (xs ++ ys) k v ≡ xs ++ insert_entry C ys k v
  insert_entry-append_right [] ys k v f = refl
  insert_entry-append_right (x ∷ xs) ys k v f =
      rw f.0 (ap (λ es. x ∷ es) (insert_entry-append_right xs ys k v f.1))

  pub AllAbove-insert_entry : (j k : K) (v : X) (es : List (K × X)) → C j k ≡ Less → AllAbove j es
      → AllAbove j (insert_entry C es k v)
  AllAbove-insert_entry j k v [] less f = (less, tt)
  AllAbove-insert_entry j k v (e ∷ es) less f =
      by (AllAbove-insert_entry j k v es less f.1) (C k e.0)
    where
      by : AllAbove j (insert_entry C es k v) → (o : Ordering)
          → AllAbove j (match_ordering o ((k, v) ∷ e ∷ es) ((e.0, v) ∷ es)
          (e ∷ insert_entry C es k v))
      by more Less = (less, f)
      by more Equal = f
      by more Greater = (f.0, more)

  -- one more entry keeps the order
  pub sorted-insert_entry : IsTotalOrder C → (es : List (K × X)) (k : K) (v : X)
      → IsStrictlySortedBy C (keys_of es) → IsStrictlySortedBy C (keys_of (insert_entry C es k v))
  unfolding IsStrictlySortedBy
  sorted-insert_entry o [] k v s = (tt, tt)
  sorted-insert_entry o (e ∷ es) k v s = by (sorted-insert_entry o es k v s.1) (C k e.0) refl
    where
      by : IsStrictlySortedBy C (keys_of (insert_entry C es k v)) → (r : Ordering) → C k e.0 ≡ r
          → IsStrictlySortedBy C (keys_of (match_ordering r ((k, v) ∷ e ∷ es) ((e.0, v) ∷ es)
          (e ∷ insert_entry C es k v)))
      by more Less is = ((is, AllAbove-below o k e.0 is es s.0), s)
      by more Equal is = s
      by more Greater is = (AllAbove-insert_entry e.0 k v es (turned o k e.0 is) s.0, more)

  -- keys above k, and k before them
  pub sorted-cons : (k : K) (es : List (K × X)) → AllAbove k es → IsStrictlySortedBy C (keys_of es)
      → IsStrictlySortedBy C (k ∷ keys_of es)
  unfolding IsStrictlySortedBy
  sorted-cons k es f s = (f, s)

  pub above_first : (k : K) (es : List (K × X)) → IsStrictlySortedBy C (k ∷ keys_of es)
      → AllAbove k es
  unfolding IsStrictlySortedBy
  above_first k es s = s.0

  pub sorted_others : (k : K) (es : List (K × X)) → IsStrictlySortedBy C (k ∷ keys_of es)
      → IsStrictlySortedBy C (keys_of es)
  unfolding IsStrictlySortedBy
  sorted_others k es s = s.1

  AllAbove-remove_entry : (k : K) (test : K → Bool) (es : List (K × X)) → AllAbove k es
      → AllAbove k (remove_entry test es)
  AllAbove-remove_entry k test [] f = tt
  AllAbove-remove_entry k test (e ∷ es) f = by (AllAbove-remove_entry k test es f.1) (test e.0)
    where
      by : AllAbove k (remove_entry test es) → (b : Bool)
          → AllAbove k (cond b es (e ∷ remove_entry test es))
      by more true = f.1
      by more false = (f.0, more)

  AllAbove-filter : (k : K) (keep : K × X → Bool) (es : List (K × X)) → AllAbove k es
      → AllAbove k (filter keep es)
  AllAbove-filter k keep [] f = tt
  AllAbove-filter k keep (e ∷ es) f = by (AllAbove-filter k keep es f.1) (keep e)
    where
      by : AllAbove k (filter keep es) → (b : Bool)
          → AllAbove k (cond b (e ∷ filter keep es) (filter keep es))
      by more true = (f.0, more)
      by more false = more

  -- so do some entries of all
  pub sorted-filter : (keep : K × X → Bool) (es : List (K × X))
      → IsStrictlySortedBy C (keys_of es) → IsStrictlySortedBy C (keys_of (filter keep es))
  unfolding IsStrictlySortedBy
  sorted-filter keep [] s = s
  sorted-filter keep (e ∷ es) s = by (sorted-filter keep es s.1) (keep e)
    where
      by : IsStrictlySortedBy C (keys_of (filter keep es)) → (b : Bool)
          → IsStrictlySortedBy C (keys_of (cond b (e ∷ filter keep es) (filter keep es)))
      by more true = (AllAbove-filter e.0 keep es s.0, more)
      by more false = more

  -- one entry less keeps the order
  pub sorted-remove_entry : (test : K → Bool) (es : List (K × X))
      → IsStrictlySortedBy C (keys_of es) → IsStrictlySortedBy C (keys_of (remove_entry test es))
  unfolding IsStrictlySortedBy
  sorted-remove_entry test [] s = s
  sorted-remove_entry test (e ∷ es) s = by (sorted-remove_entry test es s.1) (test e.0)
    where
      by : IsStrictlySortedBy C (keys_of (remove_entry test es)) → (b : Bool)
          → IsStrictlySortedBy C (keys_of (cond b es (e ∷ remove_entry test es)))
      by more true = s.1
      by more false = (AllAbove-remove_entry e.0 test es s.0, more)

  -- the same behind a first key
  pub sorted-cons-insert_entry : IsTotalOrder C → (f k : K) (v : X) (es new : List (K × X))
      → new ≡ insert_entry C es k v → C k f ≡ Greater → IsStrictlySortedBy C (f ∷ keys_of es)
      → IsStrictlySortedBy C (f ∷ keys_of new)
  sorted-cons-insert_entry o f k v es new is above s =
      rw is (sorted-cons f (insert_entry C es k v)
      (AllAbove-insert_entry f k v es (turned o k f above) (above_first f es s))
      (sorted-insert_entry o es k v (sorted_others f es s)))

  pub sorted-cons-remove_entry : (f : K) (test : K → Bool) (es new : List (K × X))
      → new ≡ remove_entry test es → IsStrictlySortedBy C (f ∷ keys_of es)
      → IsStrictlySortedBy C (f ∷ keys_of new)
  sorted-cons-remove_entry f test es new is s =
      rw is (sorted-cons f (remove_entry test es)
      (AllAbove-remove_entry f test es (above_first f es s))
      (sorted-remove_entry test es (sorted_others f es s)))

  -- a key below the first is below all
  pub sorted_below : IsTotalOrder C → (k : K) (e : K × X) (es : List (K × X)) → C k e.0 ≡ Less
      → IsStrictlySortedBy C (e.0 ∷ keys_of es) → IsStrictlySortedBy C (k ∷ e.0 ∷ keys_of es)
  sorted_below o k e es less s =
      sorted-cons k (e ∷ es) (less, AllAbove-below o k e.0 less es (above_first e.0 es s)) s

  pub lookup_below : IsTotalOrder C → (k : K) (e : K × X) (es : List (K × X)) → C k e.0 ≡ Less
      → IsStrictlySortedBy C (e.0 ∷ keys_of es) → lookup (is_at (C k)) (e ∷ es) ≡ None
  lookup_below o k e es less s =
      lookup-above k (e ∷ es) (less, AllAbove-below o k e.0 less es (above_first e.0 es s))

  -- a value that a key has already changes nothing
  pub insert_entry-held : IsTotalOrder C → (es : List (K × X)) (k : K) (v : X)
      → IsStrictlySortedBy C (keys_of es) → lookup (is_at (C k)) es ≡ Some v
      → insert_entry C es k v ≡ es
  insert_entry-held o [] k v s found = cc
  insert_entry-held o (e ∷ es) k v s found =
      by (insert_entry-held o es k v (sorted_others e.0 es s)) (C k e.0) refl found
    where
      by : (lookup (is_at (C k)) es ≡ Some v → insert_entry C es k v ≡ es) → (r : Ordering)
          → C k e.0 ≡ r → cond (is_eq r) (Some e.1) (lookup (is_at (C k)) es) ≡ Some v
          → match_ordering r ((k, v) ∷ e ∷ es) ((e.0, v) ∷ es) (e ∷ insert_entry C es k v)
          ≡ e ∷ es
      by more Less less is = let none : lookup (is_at (C k)) (e ∷ es) ≡ None =
          lookup_below o k e es less s in let nothing = rw less at none in cc
      by more Equal equal is = let same : e.1 ≡ v = cc in rw same refl
      by more Greater above is = ap (λ rest. e ∷ rest) (more is)

  -- the first entry goes before the others
  pub insert_first : (f : K) (v : X) (es new : List (K × X)) → new ≡ insert_entry C es f v
      → IsStrictlySortedBy C (f ∷ keys_of es) → new ≡ (f, v) ∷ es
  insert_first f v es new is s = is ∙ insert_entry-above es f v (above_first f es s)

pub sorted_one : {K : Type 0} (C : K → K → Ordering) (k : K) → IsStrictlySortedBy C (k ∷ [])
unfolding IsStrictlySortedBy
sorted_one C k = (tt, tt)
