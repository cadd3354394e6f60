use Rattle.std.specs.Prelude.{◌≡◌, ℕ, ◌*◌, ◌^◌, ◌<◌, ◌≤◌, ◌⊎◌, ◌+◌, ◌%◌}

-- a power of two of at most a 64th of a distance, but 1 for a short one, and more than a 128th
pub record IsStep (distance step : ℕ) : Type 0 where
  pub power : ℕ
  pub is : step ≡ 2 ^ power
  pub most : (step ≡ 1) ⊎ (step * 64 ≤ distance)
  pub least : distance < step * 128

-- a moment is a multiple of such a step, and less than a step before an end
pub record IsOnRaster (distance end at : ℕ) : Type 0 where
  pub step : ℕ
  pub fits : IsStep distance step
  pub multiple : at % step ≡ 0
  pub near : end < at + step
