use Rattle.std.specs.Prelude.{ℕ, ◌+◌, ◌-◌, ◌*◌}
use Rattle.period_rate.specs.Share.{rate}
use Rattle.period_rate.specs.declared.rate.Rate.{Rate}

-- the first moment at which the rate's elapsed time is above two periods
abbrev pub zero_moment : Rate → ℕ
zero_moment r = r.zero_at

-- the elapsed time at a moment. It grows by 1 a ms, counts as 0 before the current period began,
-- and stays from `zero_moment` on
abbrev pub elapsed_at : Rate → ℕ → ℕ
elapsed_at r t = 2 * r.period + 1 - (r.zero_at - t)

-- the rate at a moment
unfoldable pub value_at : Rate → ℕ → ℕ
value_at r t = rate r.period r.prev r.cur (elapsed_at r t)

-- the events of its current period and of the one before
abbrev pub most_of : Rate → ℕ
most_of r = r.cur + r.prev

-- what an arrival at `now` makes
abbrev pub arrived : ℕ → ℕ → ℕ → ℕ → ℕ → Rate
arrived period elapsed cur prev now =
    record { period = period; zero_at = now + 2 * period + 1 - elapsed; cur = cur; prev = prev }
