-- Items of lists by their places.
use Rattle.std.proofs.Common.{◌≡◌, ◌≢◌, ℕ, zero, suc, List, [], ◌∷◌, ◌++◌, length, Some, None, refl}
use Rattle.std.proofs.Common.{ap, drop, slice_get}

-- the item that was added last, and any other
pub get-last : {X : Type 0} (xs : List X) (x : X) → slice_get (xs ++ x ∷ []) (length xs) ≡ Some x
get-last [] x = refl
get-last (y ∷ xs) x = get-last xs x

pub get-others : {X : Type 0} (xs : List X) (x : X) (at : ℕ) → at ≢ length xs
    → slice_get (xs ++ x ∷ []) at ≡ slice_get xs at
get-others [] x zero apart = absurd (apart refl)
get-others [] x (suc at) apart = refl
get-others (y ∷ xs) x zero apart = refl
get-others (y ∷ xs) x (suc at) apart = get-others xs x at (λ same. apart (ap suc same))

-- what is left from a place on, where there is an item, and where there is none
pub left-at : {X : Type 0} (xs : List X) (at : ℕ) (x : X) → slice_get xs at ≡ Some x
    → drop at xs ≡ x ∷ drop (suc at) xs
left-at [] at x is = cc
left-at (y ∷ xs) zero x is = cc
left-at (y ∷ xs) (suc at) x is = left-at xs at x is

pub none-left : {X : Type 0} (xs : List X) (at : ℕ) → slice_get xs at ≡ None → drop at xs ≡ []
none-left [] zero is = refl
none-left [] (suc at) is = refl
none-left (x ∷ xs) zero is = cc
none-left (x ∷ xs) (suc at) is = none-left xs at is
