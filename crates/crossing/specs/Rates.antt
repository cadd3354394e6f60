use Rattle.std.proofs.Common.{◌≡◌, ℕ, ◌≤◌, sym, ◌∙◌, arith}
use Rattle.period_rate.specs.Rate.{value_at, zero_moment}
use Rattle.period_rate.specs.declared.rate.Rate.{Rate}
use Rattle.period_rate.proofs.Moments.{value_at_ends}

-- a rate stays at 0 once it is there
pub stays_at_zero : (r : Rate) (t : ℕ) → zero_moment r ≤ t
    → value_at r t ≡ value_at r (zero_moment r)
stays_at_zero r t h = value_at_ends r t h ∙ sym (value_at_ends r (zero_moment r) (omega arith))
