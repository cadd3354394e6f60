-- The first moment at which something holds.
use Rattle.std.specs.Prelude.{ℕ, ◌+◌, ◌-◌, ◌^◌, ◌<◌, ◌≤◌, Option, None, Some}

-- p holds at t, and at no moment from `from` on and before t
pub record IsFirstAt (from : ℕ) (p : ℕ → Type 0) (t : ℕ) : Type 0 where
  pub since : from ≤ t
  pub holds : p t
  pub not_before : (s : ℕ) → from ≤ s → s < t → p s → ⊥

-- the first moment from `from` on at which p holds, or none where it never does
abbrev pub IsFirstFrom : ℕ → (ℕ → Type 0) → Option ℕ → Type 0
IsFirstFrom from p None = (s : ℕ) → from ≤ s → p s → ⊥
IsFirstFrom from p (Some t) = IsFirstAt from p t

-- a value is below a bound at t and isn't yet a moment before, which is no sooner than `from`
pub record IsDropAt (from : ℕ) (value : ℕ → ℕ) (bound t : ℕ) : Type 0 where
  pub later : from < t
  pub below : value t < bound
  pub not_yet : bound ≤ value (t - 1)

-- a value stays as it is after about 99 days from a moment at the latest
abbrev pub IsFlatSoon : ℕ → ℕ → Type 0
IsFlatSoon now flat = flat ≤ now + 2 ^ 33
