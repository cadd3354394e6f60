-- What looks may take of the time.
use Rattle.std.specs.Prelude.{ℕ, ◌+◌, ◌-◌, ◌*◌, ◌^◌, min, max}
use Rattle.web_door.specs.declared.budget.Budget.{Budget}
use Rattle.web_door.specs.declared.budget.TheConstants.{SECOND, TENTH}

-- the greatest moment, in µs
abbrev pub last_moment : ℕ
last_moment = 2 ^ 64 - 1

-- for how long after a moment looks are still to be paid for
abbrev pub owed : Budget → ℕ → ℕ
owed budget now = budget.paid - now

-- the moment at which all looks are paid for, once one has ended that took so long: ten times as
-- long behind the moment at which the others are, or behind its end
abbrev pub paid_with : (paid ended took : ℕ) → ℕ
paid_with paid ended took = min (max paid ended + took * TENTH) last_moment

-- for how long a look is fresh that took so long: ten times as long, and at least a second
abbrev pub freshness : ℕ → ℕ
freshness took = min (max (took * TENTH) SECOND) last_moment
