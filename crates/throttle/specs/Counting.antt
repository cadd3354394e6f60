-- Lines that were left out, and aren't told as counts yet.
use Rattle.std.specs.Prelude.{ℕ, ◌+◌, List}
use Rattle.std.specs.List.{sum_by}
use Rattle.throttle.specs.declared.counts.Count.{Count}
use Rattle.throttle.specs.declared.counts.Counts.{Counts}

-- how many lines of all sources these are
abbrev pub counted_in : List Count → ℕ
counted_in counts = sum_by (λ one. one.count) counts

-- how many lines wait
abbrev pub waiting_in : Counts → ℕ
waiting_in counts = counts.rest.count + counted_in counts.counts.items
