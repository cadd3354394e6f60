-- What a rate's value does as time goes on.
use Rattle.std.proofs.Common.{◌≡◌, ℕ, ◌+◌, ◌-◌, ◌*◌, ◌≤◌, inl, inr, ap, sym, ◌∙◌, arith}
use Rattle.std.proofs.lemmas.Bool.{cases_lt}
use Rattle.period_rate.specs.Share.{rate}
use Rattle.period_rate.specs.Rate.{value_at, elapsed_at, most_of, zero_moment, arrived}
use Rattle.period_rate.specs.declared.rate.Rate.{Rate}
use Rattle.period_rate.proofs.Falling.{rate_falls, rate_ends, rate_le}

pub value_at_falls : (r : Rate) (t later : ℕ) → t ≤ later → value_at r later ≤ value_at r t
unfolding value_at
value_at_falls r t later h = rate_falls r.period r.prev r.cur (elapsed_at r t)
    (elapsed_at r later) (omega arith)

pub value_at_ends : (r : Rate) (t : ℕ) → zero_moment r ≤ t → value_at r t ≡ 0
unfolding value_at
value_at_ends r t h = rate_ends r.period r.prev r.cur (elapsed_at r t) (omega arith)

pub value_at_le : (r : Rate) (t : ℕ) → value_at r t ≤ most_of r
unfolding value_at
value_at_le r t = rate_le r.period r.prev r.cur (elapsed_at r t)

-- an arrival's value is the rate at the elapsed time that arrived and what has passed since
pub value_at-arrived : (p e c a now t : ℕ) → value_at (arrived p e c a now) t
    ≡ rate p a c (e + t - now)
unfolding value_at
value_at-arrived p e c a now t = elim (cases_lt t (now + 2 * p + 1 - e)) [
  | inl before ↦ ap (rate p a c) (omega arith)
  | inr ended ↦ rate_ends p a c (elapsed_at (arrived p e c a now) t) (omega arith)
      ∙ sym (rate_ends p a c (e + t - now) (omega arith))
]
