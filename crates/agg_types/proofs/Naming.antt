-- The first places of names: what one more entry, or one more noted name, makes of a look-up.
use Rattle.std.proofs.Common.{◌≡◌, ℕ, zero, suc, ◌+◌, ◌<◌, Bool, true, false, cond, List, [], ◌∷◌}
use Rattle.std.proofs.Common.{◌++◌, ◌||◌, length, take, position, Option, Some, None, IfSome, refl}
use Rattle.std.proofs.Common.{sym}
use Rattle.std.proofs.Common.{ap, ap₂, ◌∙◌, arith, subst, is_some, nat_eq, nat_lt, true≢false}
use Rattle.std.proofs.lemmas.Bool.Decides.{nat_tests}
use Rattle.std.proofs.lemmas.Cmp.{nat_list_eq_equiv}
use Rattle.std.proofs.lemmas.Iterator.Adapters.{position_from-zero}
use Rattle.std.specs.Cmp.Lexicographic.{pointwise}
use Rattle.std.specs.List.{list_any, position_from, position_or_len}
use Rattle.std.specs.Map.{lookup}
use Rattle.std.specs.Option.{option_or}
use Rattle.std.specs.Prelude.{Vec}
use Rattle.std.specs.Str.{bytes_eq}
use Rattle.indexmap.specs.IndexMap.{IndexMap, insert_entry}
use Rattle.indexmap.proofs.CallerLemmas.{insert_entry-new}
use Rattle.agg_types.specs.Naming.{place_of, kept_at, KeepsFirsts, Notes}

-- a place that is below this many
abbrev pub is_below : ℕ → Option ℕ → Bool
is_below n None = false
is_below n (Some place) = nat_lt place n

module _ {A : Type 0} (test : A → Bool) where
  -- the first place is the one before, or else that of the last entry
  position_from-push : (xs : List A) (x : A) (i : ℕ) → position_from test i (xs ++ x ∷ [])
      ≡ option_or (position_from test i xs) (cond (test x) (Some (i + length xs)) None)
  position_from-push [] x i = ap (λ k. cond (test x) (Some k) None) (omega arith)
  position_from-push (y ∷ ys) x i = by (position_from-push ys x (i + 1)) (test y)
    where
      by : position_from test (i + 1) (ys ++ x ∷ [])
          ≡ option_or (position_from test (i + 1) ys)
          (cond (test x) (Some (i + 1 + length ys)) None)
          → (b : Bool) → cond b (Some i) (position_from test (i + 1) (ys ++ x ∷ []))
          ≡ option_or (cond b (Some i) (position_from test (i + 1) ys))
          (cond (test x) (Some (i + suc (length ys))) None)
      by rest true = refl
      by rest false = rest
          ∙ ap (λ k. option_or (position_from test (i + 1) ys) (cond (test x) (Some k) None))
          (omega arith)

  pub position-push : (xs : List A) (x : A) → position test (xs ++ x ∷ [])
      ≡ option_or (position test xs) (cond (test x) (Some (length xs)) None)
  position-push xs x = position_from-zero test (xs ++ x ∷ []) ∙ position_from-push xs x 0
      ∙ ap₂ (λ p k. option_or p (cond (test x) (Some k) None))
      (sym (position_from-zero test xs)) (omega arith)

  none_below : (xs : List A) (i n : ℕ) → n < suc i → is_below n (position_from test i xs) ≡ false
  none_below [] i n h = refl
  none_below (x ∷ xs) i n h = by (none_below xs (i + 1) n (omega arith)) (test x)
    where
      by : is_below n (position_from test (i + 1) xs) ≡ false
          → (b : Bool) → is_below n (cond b (Some i) (position_from test (i + 1) xs)) ≡ false
      by rest true = grind (arith, nat_tests)
      by rest false = rest

  -- one of the first n passes where the first place is below n
  from-list_any-take : (xs : List A) (n i : ℕ)
      → is_below (i + n) (position_from test i xs) ≡ list_any test (take n xs)
  from-list_any-take [] zero i = refl
  from-list_any-take [] (suc n) i = refl
  from-list_any-take (x ∷ xs) zero i = none_below (x ∷ xs) i (i + 0) (omega arith)
  from-list_any-take (x ∷ xs) (suc n) i = by (from-list_any-take xs n (i + 1)) (test x)
    where
      by : is_below (i + 1 + n) (position_from test (i + 1) xs) ≡ list_any test (take n xs)
          → (b : Bool) → is_below (i + suc n) (cond b (Some i) (position_from test (i + 1) xs))
          ≡ (b || list_any test (take n xs))
      by rest true = grind (arith, nat_tests)
      by rest false = ap (λ k. is_below k (position_from test (i + 1) xs)) (omega arith) ∙ rest

  pub list_any-take : (xs : List A) (n : ℕ)
      → is_below n (position test xs) ≡ list_any test (take n xs)
  list_any-take xs n = ap₂ is_below (omega arith) (position_from-zero test xs)
      ∙ from-list_any-take xs n 0

  from-list_any : (xs : List A) (i : ℕ) → is_some (position_from test i xs) ≡ list_any test xs
  from-list_any [] i = refl
  from-list_any (x ∷ xs) i = by (from-list_any xs (i + 1)) (test x)
    where
      by : is_some (position_from test (i + 1) xs) ≡ list_any test xs
          → (b : Bool) → is_some (cond b (Some i) (position_from test (i + 1) xs))
          ≡ (b || list_any test xs)
      by rest true = refl
      by rest false = rest

  -- one passes where there is a first place
  pub list_any-position : (xs : List A) → is_some (position test xs) ≡ list_any test xs
  list_any-position xs = ap is_some (position_from-zero test xs) ∙ from-list_any xs 0

  -- a first place lies within the list
  pub position-within : (xs : List A) (answer : Option ℕ) → answer ≡ position test xs
      → IfSome answer (λ place. place < length xs)
  position-within xs answer e = subst (λ p. IfSome p (λ place. place < length xs)) (sym e)
      (by (nat_lt (position_or_len test xs) (length xs)) refl)
    where
      by : (b : Bool) → nat_lt (position_or_len test xs) (length xs) ≡ b
          → IfSome (cond b (Some (position_or_len test xs)) None) (λ place. place < length xs)
      by true h = grind (arith, nat_tests, h)
      by false h = tt

-- the value found is the one before, or else that of the last pair
lookup-push : {K V : Type 0} (test : K → Bool) (es : List (K × V)) (k : K) (v : V)
    → lookup test (es ++ (k, v) ∷ []) ≡ option_or (lookup test es) (cond (test k) (Some v) None)
lookup-push test [] k v = refl
lookup-push test (e ∷ es) k v = by (lookup-push test es k v) (test e.0)
  where
    by : lookup test (es ++ (k, v) ∷ [])
        ≡ option_or (lookup test es) (cond (test k) (Some v) None)
        → (b : Bool) → cond b (Some e.1) (lookup test (es ++ (k, v) ∷ []))
        ≡ option_or (cond b (Some e.1) (lookup test es)) (cond (test k) (Some v) None)
    by rest true = refl
    by rest false = rest

none : {A : Type 0} (p : Option A) → is_some p ≡ false → p ≡ None
none None h = refl
none (Some x) h = absurd (true≢false h)

-- a new name goes last, and is found there
pub notes-new : {V S : Type 0} (old new : IndexMap (Vec ℕ V) ℕ S) (name : List ℕ) (place : ℕ)
    (key : Vec ℕ V) → key.items ≡ name → is_some (kept_at old name) ≡ false
    → new.entries ≡ insert_entry (λ a b. pointwise nat_eq a.items b.items) old.entries key place
    → Notes old name place new
notes-new old new name place key is absent grown other =
    ap (lookup (λ k. pointwise nat_eq other k.items)) (grown ∙ insert_entry-new
    (λ a b. pointwise nat_eq a.items b.items) old key place
    (subst (λ l. kept_at old l ≡ None) (sym is) (none (kept_at old name) absent)))
    ∙ lookup-push (λ k. pointwise nat_eq other k.items) old.entries key place
    ∙ ap (λ b. option_or (kept_at old other) (cond b (Some place) None))
    (ap (pointwise nat_eq other) is ∙ nat_list_eq_equiv.symm other name)

-- one more entry, whose name is noted at its place, keeps the first places
pub keeps-push : {A V S : Type 0} (name_of : A → List ℕ) (entries : List A) (entry : A)
    (old new : IndexMap (Vec ℕ V) ℕ S) (name : List ℕ) (place : ℕ)
    → KeepsFirsts name_of entries old → name ≡ name_of entry → place ≡ length entries
    → Notes old name place new → KeepsFirsts name_of (entries ++ entry ∷ []) new
keeps-push name_of entries entry old new name place keeps named placed notes other =
    notes other
    ∙ ap (λ p. option_or p (cond (bytes_eq name other) (Some place) None)) (keeps other)
    ∙ ap₂ (λ l k. option_or (place_of name_of entries other)
    (cond (bytes_eq l other) (Some k) None)) named placed
    ∙ sym (position-push (λ entry. bytes_eq (name_of entry) other) entries entry)
