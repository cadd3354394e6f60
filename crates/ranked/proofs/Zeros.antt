-- The leading zeros of a number, and the greatest number that has as many.
use Rattle.std.proofs.Common.{◌≡◌, ℕ, zero, suc, ◌+◌, ◌-◌, ◌*◌, ◌/◌, ◌^◌, ◌<◌, ◌≤◌, refl, arith}
use Rattle.std.proofs.Common.{◌&&◌, false, nat_le}
use Rattle.std.specs.Prelude.{◌≢◌}
use Rattle.std.proofs.lemmas.Bool.Decides.{nat_tests}
use lib.Count.{count_leading_zeros, leading_top}
use Rattle.std.proofs.Math.Nat.{pow-suc}
use Rattle.ranked.specs.Walk.{bound_of}

zeros_of_zero : count_leading_zeros 128 0 ≡ 128
unfolding count_leading_zeros
zeros_of_zero = refl

pub leading_holds : (n : ℕ) → n < 2 ^ 128 → n ≤ bound_of (count_leading_zeros 128 n)
leading_holds zero h = omega arith
leading_holds (suc n) h =
    let top = leading_top 128 (suc n) (omega arith) h in
    let digits : 128 - count_leading_zeros 128 (suc n) ≡ suc top.0 = omega (arith, top.1) in
    rw digits (omega (arith, top.3))

pub leading_near : (n : ℕ) → n < 2 ^ 128 → bound_of (count_leading_zeros 128 n) ≤ 4 * n + 3
leading_near zero h = rw zeros_of_zero (omega arith)
leading_near (suc n) h =
    let top = leading_top 128 (suc n) (omega arith) h in
    let digits : 128 - count_leading_zeros 128 (suc n) ≡ suc top.0 = omega (arith, top.1) in
    rw (digits, pow-suc) (omega (arith, top.2))

-- a bound that no longer serves isn't the one that is wanted
pub unserved : (zeros wanted bound : ℕ)
    → (nat_le bound (bound_of zeros) && nat_le (bound_of zeros / 4) bound) ≡ false
    → bound ≤ bound_of wanted → bound_of wanted ≤ 4 * bound + 3 → zeros ≢ wanted
unserved zeros wanted bound unfit holds near = λ same.
    by (bound_of zeros) unfit (rw same holds) (rw same near)
  where
    by : (kept : ℕ) → (nat_le bound kept && nat_le (kept / 4) bound) ≡ false → bound ≤ kept
        → kept ≤ 4 * bound + 3 → ⊥
    by kept unfit holds near = grind (arith, nat_tests)
