-- What stands in front stays there while more is appended.
use Rattle.std.proofs.Common.{◌≡◌, ℕ, List, [], ◌∷◌, length, take, refl}

-- what begins with a list that begins with another begins with that one
pub begins_then : (a b c : List ℕ) → take (length a) b ≡ a → take (length b) c ≡ b
    → take (length a) c ≡ a
begins_then [] b c first second = refl
begins_then (x ∷ a) [] c first second = absurd cc
begins_then (x ∷ a) (y ∷ b) [] first second = absurd cc
begins_then (x ∷ a) (y ∷ b) (z ∷ c) first second =
    let front : take (length a) b ≡ a = cc in
    let more : take (length b) c ≡ b = cc in
    let same : z ≡ x = cc in
    let behind = begins_then a b c front more in
    cc
