use Rattle.std.specs.Prelude.{ℕ, ◌+◌, ◌*◌, ◌^◌, List, slice_index}
use Rattle.period_rate.specs.declared.rate.Rate.{Rate}

-- the rate that five words stand for: its period, the low and the high half of the moment from
-- which it is 0, and its two counts
abbrev pub rate_of : List ℕ → Rate
rate_of words = record {
  period = slice_index words 0;
  zero_at = slice_index words 1 + 2 ^ 32 * slice_index words 2;
  cur = slice_index words 3;
  prev = slice_index words 4;
}
