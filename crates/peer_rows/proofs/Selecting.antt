-- Look-ups, removals and filters of entries by a test of their keys.
use Rattle.std.proofs.Common.{◌≡◌, Bool, true, false, cond, List, [], ◌∷◌, ◌++◌, refl, ap}
use Rattle.std.specs.Prelude.{Some, None, ⊤, not, filter}
use Rattle.std.specs.Map.{lookup, remove_entry}
use Rattle.std.proofs.lemmas.Map.{NonePasses, none_passes_from_lookup}

module _ {K X : Type 0} (test : K → Bool) where
  pub NonePasses-append : (xs ys : List (K × X)) → NonePasses test xs → NonePasses test ys
      → NonePasses test (xs ++ ys)
  NonePasses-append [] ys f g = g
  NonePasses-append (x ∷ xs) ys f g = (f.0, NonePasses-append xs ys f.1 g)

  pub lookup-append_left : (xs ys : List (K × X)) → NonePasses test ys
      → lookup test (xs ++ ys) ≡ lookup test xs
  lookup-append_left [] [] f = refl
  lookup-append_left [] (y ∷ ys) f = rw f.0 (lookup-append_left [] ys f.1)
  lookup-append_left (x ∷ xs) ys f =
      ap (λ rest. cond (test x.0) (Some x.1) rest) (lookup-append_left xs ys f)

  pub lookup-append_right : (xs ys : List (K × X)) → NonePasses test xs
      → lookup test (xs ++ ys) ≡ lookup test ys
  lookup-append_right [] ys f = refl
  lookup-append_right (x ∷ xs) ys f = rw f.0 (lookup-append_right xs ys f.1)

  pub remove_entry-none : (es : List (K × X)) → NonePasses test es → remove_entry test es ≡ es
  remove_entry-none [] f = refl
  remove_entry-none (e ∷ es) f = rw f.0 (ap (λ rest. e ∷ rest) (remove_entry-none es f.1))

  pub remove_entry-append_left : (xs ys : List (K × X)) → NonePasses test ys
      → remove_entry test (xs ++ ys) ≡ remove_entry test xs ++ ys
  remove_entry-append_left [] ys f = remove_entry-none ys f
  remove_entry-append_left (x ∷ xs) ys f = by (remove_entry-append_left xs ys f) (test x.0)
    where
      by : remove_entry test (xs ++ ys) ≡ remove_entry test xs ++ ys → (b : Bool)
          → cond b (xs ++ ys) (x ∷ remove_entry test (xs ++ ys))
          ≡ cond b xs (x ∷ remove_entry test xs) ++ ys
      by more true = refl
      by more false = ap (λ rest. x ∷ rest) more

  pub remove_entry-append_right : (xs ys : List (K × X)) → NonePasses test xs
      → remove_entry test (xs ++ ys) ≡ xs ++ remove_entry test ys
  remove_entry-append_right [] ys f = refl
  remove_entry-append_right (x ∷ xs) ys f =
      rw f.0 (ap (λ rest. x ∷ rest) (remove_entry-append_right xs ys f.1))

  pub filter-none : (es : List (K × X)) → NonePasses test es → filter (λ e. test e.0) es ≡ []
  filter-none [] f = refl
  filter-none (e ∷ es) f = rw f.0 (filter-none es f.1)

  pub filter_not-none : (es : List (K × X)) → NonePasses test es
      → filter (λ e. not (test e.0)) es ≡ es
  filter_not-none [] f = refl
  filter_not-none (e ∷ es) f = rw f.0 (ap (λ rest. e ∷ rest) (filter_not-none es f.1))

  -- one key passes at most
  abbrev pub PassesOnce : List (K × X) → Type 0
  PassesOnce [] = ⊤
  PassesOnce (e ∷ es) = (test e.0 ≡ true → NonePasses test es) × PassesOnce es

pub filter-append : {X : Type 0} (test : X → Bool) (xs ys : List X)
    → filter test (xs ++ ys) ≡ filter test xs ++ filter test ys
filter-append test [] ys = refl
filter-append test (x ∷ xs) ys = by (filter-append test xs ys) (test x)
  where
    by : filter test (xs ++ ys) ≡ filter test xs ++ filter test ys → (b : Bool)
        → cond b (x ∷ filter test (xs ++ ys)) (filter test (xs ++ ys)) ≡ cond b (x ∷ filter test xs)
        (filter test xs) ++ filter test ys
    by more true = ap (λ rest. x ∷ rest) more
    by more false = more

pub remove_entry-missing : {K X : Type 0} (test : K → Bool) (es : List (K × X))
    → lookup test es ≡ None → remove_entry test es ≡ es
remove_entry-missing test es none = remove_entry-none test es (none_passes_from_lookup test es none)
