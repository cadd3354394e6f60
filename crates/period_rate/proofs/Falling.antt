-- The rate never rises as time passes.
use Rattle.std.proofs.Common.{◌≡◌, ℕ, ◌+◌, ◌-◌, ◌*◌, ◌/◌, ◌<◌, ◌≤◌, ◌^◌, zero, suc, arith}
use Rattle.std.proofs.Math.Nat.{div-le_of_le-mul, div-mul-le_self}
use Rattle.std.proofs.lemmas.Nat.{le-div, mul-le}
use Rattle.std.proofs.lemmas.Bool.Decides.{nat_tests}
use Rattle.period_rate.specs.Share.{rate, while_running, once_ended}

-- a share is at most the whole
pub share_le : (a k p : ℕ) → k ≤ p → a * k / p ≤ a
share_le a k p h = div-le_of_le-mul p (omega (arith, mul-le a k a p (omega arith) h))

-- less time left is a smaller share
pub share_falls : (a k l p : ℕ) → 0 < p → k ≤ l → a * k / p ≤ a * l / p
share_falls a k l p pos h =
    le-div (a * k / p) (a * l) p pos (omega (
      arith,
      div-mul-le_self (a * k) p,
      mul-le a k a l (omega arith) h,
    ))

pub while_running_falls : (p a c e f : ℕ) → 0 < p → e ≤ f
    → while_running p a c f ≤ while_running p a c e
unfolding while_running
while_running_falls p a c e f pos h =
    let s : a * (p - f) / p ≤ a * (p - e) / p = share_falls a (p - f) (p - e) p pos (omega arith) in
    grind (arith, nat_tests)

pub while_running_has_current : (p a c e : ℕ) → c ≤ while_running p a c e
unfolding while_running
while_running_has_current p a c e = grind (arith, nat_tests)

pub once_ended_falls : (p c e f : ℕ) → 0 < p → e ≤ f → once_ended p c f ≤ once_ended p c e
unfolding once_ended
once_ended_falls p c e f pos h =
    let s : c * (2 * p - f) / p ≤ c * (2 * p - e) / p =
    share_falls c (2 * p - f) (2 * p - e) p pos (omega arith) in
    grind (arith, nat_tests)

pub once_ended_le : (p c e : ℕ) → p < e → once_ended p c e ≤ c
unfolding once_ended
once_ended_le p c e h =
    let s : c * (2 * p - e) / p ≤ c = share_le c (2 * p - e) p (omega arith) in
    grind (arith, nat_tests)

-- the rate never rises
pub rate_falls : (p a c e f : ℕ) → e ≤ f → rate p a c f ≤ rate p a c e
unfolding rate
rate_falls zero a c e f h = omega arith
rate_falls (suc q) a c e f h =
    let both = while_running_falls (suc q) a c e f (omega arith) h in
    let after = once_ended_falls (suc q) c e f (omega arith) h in
    let first = while_running_has_current (suc q) a c e in
    let second : suc q < f → once_ended (suc q) c f ≤ c = once_ended_le (suc q) c f in
    grind (arith, nat_tests)

-- it is 0 once two periods have passed
pub rate_ends : (p a c e : ℕ) → 2 * p < e → rate p a c e ≡ 0
unfolding rate
rate_ends p a c e h = grind (arith, nat_tests)

-- it is never above the events of both periods
pub while_running_le : (p a c e : ℕ) → while_running p a c e ≤ c + a
unfolding while_running
while_running_le p a c e =
    let s : a * (p - e) / p ≤ a = share_le a (p - e) p (omega arith) in grind (arith, nat_tests)

pub rate_le : (p a c e : ℕ) → rate p a c e ≤ c + a
unfolding rate
rate_le zero a c e = omega arith
rate_le (suc q) a c e =
    let first = while_running_le (suc q) a c e in
    let second : suc q < e → once_ended (suc q) c e ≤ c = once_ended_le (suc q) c e in
    grind (arith, nat_tests)

-- a product of a count and a part of a period fits 64 bits
pub share_fits : (a k : ℕ) → a < 2 ^ 32 → k < 2 ^ 32 → a * k < 2 ^ 64
share_fits a k h i = omega (arith, mul-le a k (2 ^ 32 - 1) (2 ^ 32 - 1) (omega arith) (omega arith))
