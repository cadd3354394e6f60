-- Lists of which one element is gone.
use Rattle.std.proofs.Common.{◌≡◌, ℕ, zero, suc, List, [], ◌∷◌, map, remove, refl, ap}
use Rattle.std.specs.List.{AllByRecursion}

pub map-remove : {X Y : Type 0} (f : X → Y) (xs : List X) (place : ℕ)
    → map f (remove xs place) ≡ remove (map f xs) place
map-remove f [] zero = refl
map-remove f [] (suc place) = refl
map-remove f (x ∷ xs) zero = refl
map-remove f (x ∷ xs) (suc place) = ap (λ rest. f x ∷ rest) (map-remove f xs place)

-- what holds of each element holds of the others
pub all-remove : {X : Type 0} (P : X → Type 0) (xs : List X) (place : ℕ) → AllByRecursion P xs
    → AllByRecursion P (remove xs place)
all-remove P [] zero all = tt
all-remove P [] (suc place) all = tt
all-remove P (x ∷ xs) zero all = all.1
all-remove P (x ∷ xs) (suc place) all = (all.0, all-remove P xs place all.1)
