-- A span of moments that is halved until its ends are neighbours.
use Rattle.std.proofs.Common.{◌≡◌, ℕ, ◌+◌, ◌*◌, ◌-◌, ◌^◌, ◌<◌, ◌≤◌, zero, suc, refl, arith}
use Rattle.std.proofs.Common.{◌⊎◌, inl, inr}
use Rattle.std.proofs.Math.Nat.{pow-suc}
use Rattle.crossing.specs.Looks.{IsWithin}

-- the value isn't below the bound at `low`, and is at `high`, both within what was asked
pub record IsSpan (value : ℕ → ℕ) (bound from low high : ℕ) : Type 0 where
  pub apart : low < high
  pub since : from ≤ low
  pub not_yet : bound ≤ value low
  pub below : value high < bound

-- a look halves it
halved : (most looks span half : ℕ) → 1 < span → 2 * half ≤ span + 1 → IsWithin most looks span
    → IsWithin most (looks + 1) half
halved most looks span half long less w = go w.left w.length w.enough
  where
    go : (k : ℕ) → span ≤ 2 ^ k → looks + k ≤ most → IsWithin most (looks + 1) half
    go zero h e = absurd (omega arith)
    go (suc k) h e =
        let twice : 2 ^ suc k ≡ 2 ^ k * 2 = pow-suc 2 k in
        record { left = k; length = omega arith; enough = omega arith }

-- a look that is spare takes one of these, and another halves
pub one_look : (most reads spare span more rest shorter : ℕ) → more ≤ reads + 1 → 1 < span
    → rest ≡ spare - 1 → (spare ≡ 0 → 2 * shorter ≤ span + 1) → shorter ≤ span
    → IsWithin most (reads + spare) span → IsWithin most (more + rest) shorter
one_look most reads zero span more rest shorter one long less halves short w =
    let next : IsWithin most (reads + 0 + 1) shorter =
    halved most (reads + 0) span shorter long (halves refl) w in
    record { left = next.left; length = next.length; enough = omega (arith, next.enough) }
one_look most reads (suc spare) span more rest shorter one long less halves short w =
    record { left = w.left; length = omega (arith, w.length); enough = omega (arith, w.enough) }

-- what is within the looks at the start
pub begun : (looks spare reads span : ℕ) → IsWithin looks spare span
    → IsWithin (reads + looks) (reads + spare) span
begun looks spare reads span w =
    record { left = w.left; length = w.length; enough = omega (arith, w.enough) }

-- what is left of the looks beside so many that halve a span
pub beside : (halvings looks spare span : ℕ) → span ≤ 2 ^ halvings → spare ≡ looks - halvings
    → span ≤ 2 ^ looks → IsWithin looks spare span
beside halvings looks spare span few is all = elim (enough halvings looks) [
  | inl fits ↦ record { left = halvings; length = few; enough = omega arith }
  | inr more ↦ record { left = looks; length = all; enough = omega arith }
]
  where
    enough : (a b : ℕ) → (a ≤ b) ⊎ (b < a)
    enough zero b = inl (omega arith)
    enough (suc a) zero = inr (omega arith)
    enough (suc a) (suc b) = elim (enough a b) [
      | inl fits ↦ inl (omega arith)
      | inr more ↦ inr (omega arith)
    ]
