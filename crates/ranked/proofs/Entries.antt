-- The entries ahead of a walk.
use Rattle.std.proofs.Common.{◌≡◌, ℕ, ◌<◌, false, List, [], ◌∷◌, length, arith}
use Rattle.expiry_wheel.specs.Items.{first_item, without_first}
use Rattle.ranked.specs.Walk.{AreBounds, is_done}

pub bounds_behind : (living value : List ℕ → ℕ) (entries : List (ℕ × List ℕ))
    → AreBounds living value entries → AreBounds living value (without_first entries)
bounds_behind living value [] h = tt
bounds_behind living value (e ∷ entries) h = h.1

-- where a walk may not stop yet, something is left
pub something_left : (candidates : List (List ℕ × ℕ)) (entries : List (ℕ × List ℕ))
    → is_done candidates (first_item entries) ≡ false
    → length (without_first entries) < length entries
something_left [] [] h = absurd cc
something_left (best ∷ others) [] h = absurd cc
something_left candidates (e ∷ entries) h = omega arith
