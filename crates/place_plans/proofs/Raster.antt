-- Moments on a raster.
use Rattle.std.proofs.Common.{◌≡◌, ℕ, ◌-◌, ◌*◌, ◌/◌, ◌%◌, ◌<◌, ap, ◌∙◌, arith}
use Rattle.std.proofs.Math.Nat.{mul-mod_right}
use Rattle.std.proofs.lemmas.Nat.{pow_pos}
use Rattle.place_plans.specs.Rounding.{IsStep}

pub step_some : (distance step : ℕ) → IsStep distance step → 0 < step
step_some distance step is = omega (arith, pow_pos is.power, is.is)

-- what a remainder leaves is a multiple
pub rest_multiple : (n k : ℕ) → 0 < k → (n - n % k) % k ≡ 0
rest_multiple n k some =
    let whole : n - n % k ≡ k * (n / k) = omega arith in
    ap (λ m. m % k) whole ∙ mul-mod_right k (n / k)
