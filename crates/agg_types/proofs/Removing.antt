-- The first places of names, once a declaration is taken away.
use Rattle.std.proofs.Common.{◌≡◌, ℕ, zero, suc, Bool, true, false, cond, List, [], ◌∷◌, ◌||◌}
use Rattle.std.proofs.Common.{position, remove, Option, Some, None, is_some, refl, sym, ap, ◌∙◌}
use Rattle.std.proofs.Common.{subst, true≢false}
use Rattle.std.specs.List.{list_any}
use Rattle.std.specs.Map.{lookup}
use Rattle.std.specs.Map.Calls.{RetainsPairs}
use Rattle.agg_types.specs.Naming.{IsNoted}
use Rattle.agg_types.proofs.Naming.{list_any-position}

same_none : {A : Type 0} (b : Bool) (o : Option A) → o ≡ None → cond b o None ≡ None
same_none true o e = e
same_none false o e = refl

-- what is found among the pairs that are kept, each with its place noted anew
module _ {K F : Type 0} (T : F → K → ℕ → Bool → ℕ → F → Type 0) (test : K → Bool)
    (place : K → Option ℕ) (found : Option ℕ) (agrees : (k : K) → test k ≡ true → place k ≡ found)
    (f : F) (says : (k : K) (v : ℕ) (b : Bool) (w : ℕ) (g : F) → T f k v b w g
    → IsNoted (place k) b w × (g ≡ f)) where
  cases : (k : K) (w : ℕ) (rest : List (K × ℕ)) (b : Bool)
      → lookup test (cond b ((k, w) ∷ rest) rest)
      ≡ cond b (cond (test k) (Some w) (lookup test rest)) (lookup test rest)
  cases k w rest true = refl
  cases k w rest false = refl

  one : (k : K) (v w : ℕ) (b : Bool) (rest old : Option ℕ) → IsNoted (place k) b w
      → rest ≡ cond (is_some old) found None
      → cond b (cond (test k) (Some w) rest) rest
      ≡ cond (is_some (cond (test k) (Some v) old)) found None
  one k v w b rest old noted same = by (test k) refl (place k) refl b noted
    where
      by : (t : Bool) → test k ≡ t → (o : Option ℕ) → place k ≡ o → (b : Bool) → IsNoted o b w
          → cond b (cond t (Some w) rest) rest ≡ cond (is_some (cond t (Some v) old)) found None
      by true told (Some p) placed true noted =
          ap Some noted.1 ∙ (sym placed ∙ agrees k told)
      by true told (Some p) placed false noted = absurd (true≢false (sym noted.0))
      by true told None placed true noted = absurd (true≢false noted)
      by true told None placed false noted =
          let none : found ≡ None = sym (agrees k told) ∙ placed in
          same ∙ (same_none (is_some old) found none ∙ sym none)
      by false told o placed true noted = same
      by false told o placed false noted = same

  pub retained : (es kept : List (K × ℕ)) → RetainsPairs T f es kept
      → lookup test kept ≡ cond (is_some (lookup test es)) found None
  retained [] kept h = ap (lookup test) h
  retained (e ∷ es) kept h =
      let s = says e.0 e.1 h.0 h.1 h.2 h.4 in
      let rest = retained es h.3 (subst (λ g. RetainsPairs T g es h.3) s.1 h.5) in
      ap (lookup test) h.6 ∙ (cases e.0 h.1 h.3 h.0
      ∙ one e.0 e.1 h.1 h.0 (lookup test h.3) (lookup test es) s.0 rest)

module _ {A : Type 0} (test : A → Bool) where
  -- where no entry passes, none does once one is gone
  none_left : (xs : List A) (place : ℕ) → list_any test xs ≡ false
      → list_any test (remove xs place) ≡ false
  none_left [] zero h = refl
  none_left [] (suc place) h = refl
  none_left (x ∷ xs) zero h = right (test x) (list_any test xs) h
    where
      right : (a b : Bool) → (a || b) ≡ false → b ≡ false
      right true b e = absurd (true≢false e)
      right false b e = e
  none_left (x ∷ xs) (suc place) h = both (test x) (list_any test xs)
      (list_any test (remove xs place)) h (none_left xs place)
    where
      both : (a b c : Bool) → (a || b) ≡ false → (b ≡ false → c ≡ false) → (a || c) ≡ false
      both true b c e rest = absurd (true≢false e)
      both false b c e rest = rest e

  not_found : (o : Option ℕ) → is_some o ≡ false → o ≡ None
  not_found None h = refl
  not_found (Some place) h = absurd (true≢false h)

  -- the first place once an entry is gone is none where there was none before
  pub first-remove : (xs : List A) (place : ℕ)
      → cond (is_some (position test xs)) (position test (remove xs place)) None
      ≡ position test (remove xs place)
  first-remove xs place = by (is_some (position test xs)) refl
    where
      by : (b : Bool) → is_some (position test xs) ≡ b
          → cond b (position test (remove xs place)) None ≡ position test (remove xs place)
      by true e = refl
      by false e = sym (not_found (position test (remove xs place))
          (list_any-position test (remove xs place)
          ∙ none_left xs place (sym (list_any-position test xs) ∙ e)))
