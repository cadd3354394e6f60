-- What a throttle tells, and what it leaves out.
use Rattle.std.specs.Prelude.{◌≡◌, ◌⊎◌, ℕ, ◌≤◌, List}
use Rattle.throttle.specs.Counting.{waiting_in}
use Rattle.throttle.specs.Minutes.{fresh, minute_at, minute_in, one_more}
use Rattle.throttle.specs.declared.minute.Minute.{Minute}
use Rattle.throttle.specs.declared.throttle.Throttle.{Throttle}

-- how many lines were left out, and aren't handed out as counts yet
abbrev pub waiting : Throttle → ℕ
waiting throttle = waiting_in throttle.counts

-- the minute of a line of any source at this moment
abbrev pub minute_of_all : Throttle → ℕ → Minute
minute_of_all throttle now = minute_at throttle.minute now

-- the minute of a line of this source at this moment
abbrev pub minute_of : Throttle → List ℕ → ℕ → Minute
minute_of throttle source now = minute_in throttle.sources.flows.items source now

-- what is remembered of minutes is the same
pub record HasSameMinutes (before after : Throttle) : Type 0 where
  pub all : after.minute ≡ before.minute
  pub sources : after.sources.flows.items ≡ before.sources.flows.items

-- one more line was told in a minute, in which so many may be
pub record IsTold (most : ℕ) (before after : Minute) : Type 0 where
  pub one : after ≡ one_more before
  pub few : after.told ≤ most

-- why a line is left out: as many of its source, or of all, were told in its minute as may be; or
-- it is the first of its source, for which there is no room
abbrev pub MayLeaveOut : Throttle → List ℕ → ℕ → Type 0
MayLeaveOut throttle source now =
    (60 ≤ (minute_of throttle source now).told)
    ⊎ (600 ≤ (minute_of_all throttle now).told)
    ⊎ (minute_of throttle source now ≡ fresh now)
