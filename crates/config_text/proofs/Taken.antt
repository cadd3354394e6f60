-- The first lines of a text.
use Rattle.std.proofs.Common.{◌≡◌, ◌≤◌, ℕ, ◌-◌, List, ◌∷◌, take, arith}

-- the first of some lines, and those behind it
pub take_first : (k : ℕ) (line : List ℕ) (lines : List (List ℕ)) → 1 ≤ k
    → take k (line ∷ lines) ≡ line ∷ take (k - 1) lines
take_first k line lines positive = grind (arith, positive)
