use Rattle.std.proofs.Common.{◌≡◌, ℕ, ◌≤◌}
use Rattle.agg_types.specs.declared.column.Col.{Col}
use Rattle.crossing.specs.Shown.{measured}
use Rattle.crossing.specs.declared.values.Measured.{Measured}
use Rattle.crossing.specs.declared.values.Measured.TheVariants.{Column, LiveRows}

pub measured_falls : (summed : Col → ℕ → ℕ) (living : ℕ → ℕ)
    → ((col : Col) (t later : ℕ) → t ≤ later → summed col later ≤ summed col t)
    → ((t later : ℕ) → t ≤ later → living later ≤ living t)
    → (m : Measured) (t later : ℕ) → t ≤ later
    → measured summed living m later ≤ measured summed living m t
measured_falls summed living sums rows (Column col) t later h = sums col t later h
measured_falls summed living sums rows LiveRows t later h = rows t later h

pub measured_stays : (summed : Col → ℕ → ℕ) (living : ℕ → ℕ) (flat : ℕ)
    → ((col : Col) (t : ℕ) → flat ≤ t → summed col t ≡ summed col flat)
    → ((t : ℕ) → flat ≤ t → living t ≡ living flat)
    → (m : Measured) (t : ℕ) → flat ≤ t → measured summed living m t ≡ measured summed living m flat
measured_stays summed living flat sums rows (Column col) t h = sums col t h
measured_stays summed living flat sums rows LiveRows t h = rows t h
