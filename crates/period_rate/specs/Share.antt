use Rattle.std.specs.Prelude.{ℕ, ◌+◌, ◌-◌, ◌*◌, ◌/◌, ◌==◌, ◌&&◌, nat_le, if◌then◌else◌}

-- while the period runs: its own events, and of the period before the share that the time left has.
-- A lone event of the period before counts whole until the period ends.
unfoldable pub while_running : ℕ → ℕ → ℕ → ℕ → ℕ
while_running period previous current elapsed =
    if (current == 0) && nat_le previous 1 then previous
    else current + previous * (period - elapsed) / period

-- in the period after it: the share of its events that the time left has. A lone event counts
-- whole.
unfoldable pub once_ended : ℕ → ℕ → ℕ → ℕ
once_ended period current elapsed =
    if nat_le current 1 then current else current * (2 * period - elapsed) / period

-- the events of one period's length up to a moment `elapsed` ms after the current period began,
-- rounded down
unfoldable pub rate : ℕ → ℕ → ℕ → ℕ → ℕ
rate period previous current elapsed =
    if period == 0
    then 0
    else (if nat_le elapsed period
    then while_running period previous current elapsed
    else (if nat_le elapsed (2 * period) then once_ended period current elapsed else 0))
