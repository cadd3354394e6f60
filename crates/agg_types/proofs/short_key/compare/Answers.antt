use Rattle.std.proofs.Common.{◌≡◌, ℕ, ◌/◌, ◌^◌, ◌<◌, Ordering, Less, Greater, nat_cmp, ap, subst₂}
use Rattle.std.proofs.Common.{arith}
use Rattle.std.specs.Ordering.{ordering_then}
use Rattle.std.specs.Cmp.{nat_cmp_is}
use Rattle.agg_types.proofs.short_key.compare.Goals as goal

-- numbers lie as their front halves do, where those differ
front_below : (m n : ℕ) → m / 2 ^ 64 < n / 2 ^ 64 → m < n
front_below m n h = omega arith

below : (m n : ℕ) (tie : Ordering) → m / 2 ^ 64 < n / 2 ^ 64
    → Less ≡ ordering_then (nat_cmp m n) tie
below m n tie h = ap (λ o. ordering_then o tie) (nat_cmp_is m n Less (front_below m n h))

above : (m n : ℕ) (tie : Ordering) → n / 2 ^ 64 < m / 2 ^ 64
    → Greater ≡ ordering_then (nat_cmp m n) tie
above m n tie h = ap (λ o. ordering_then o tie) (nat_cmp_is m n Greater (front_below n m h))

pub returns-then-front : goal.returns-then-front
returns-then-front c = below c.args.number c.args.other c.args.tie
    (subst₂ (λ m n. m < n) c.front.ensures c.front-2.ensures c.if-front.true)

pub returns-then-front-2 : goal.returns-then-front-2
returns-then-front-2 c = above c.args.number c.args.other c.args.tie
    (subst₂ (λ m n. m < n) c.front-3.ensures c.front-4.ensures c.if-front-2.true)
