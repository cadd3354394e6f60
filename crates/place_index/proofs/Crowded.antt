-- What is to come in a walk over an ordered map.
use Rattle.std.proofs.Common.{◌≡◌, ◌⊎◌, ℕ, Bool, true, false, cond, List, ◌∷◌, Some, Ordering}
use Rattle.std.proofs.Common.{sym, subst, inl, inr, refl}
use Rattle.std.specs.declared.cmp.Ordering.TheVariants.{Equal}
use Rattle.std.specs.BTreeMap.{is_at}
use Rattle.std.specs.Map.{lookup}
use Rattle.place_index.proofs.Held.{equal_from}

-- a key that is looked for is the first, of which this holds, or is found among the rest
pub first_or_rest : {K : Type 0} (cmp : K → K → Ordering)
    (exact : (x y : K) → cmp x y ≡ Equal → x ≡ y) (Holds : K → Type 0) (key first : K)
    (v at : ℕ) (rest : List (K × ℕ)) → Holds first
    → lookup (is_at (cmp key)) ((first, v) ∷ rest) ≡ Some at
    → Holds key ⊎ (lookup (is_at (cmp key)) rest ≡ Some at)
first_or_rest {K} cmp exact Holds key first v at rest holds is =
    by_test (is_at (cmp key) first) refl is
  where
    by_test : (b : Bool) → is_at (cmp key) first ≡ b
        → cond b (Some v) (lookup (is_at (cmp key)) rest) ≡ Some at
        → Holds key ⊎ (lookup (is_at (cmp key)) rest ≡ Some at)
    by_test true same found =
        inl (subst Holds (sym (exact key first (equal_from (cmp key first) same))) holds)
    by_test false other found = inr found
