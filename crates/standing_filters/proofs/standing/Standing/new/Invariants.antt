use Rattle.std.proofs.Common.{◌≡◌, map, take}
use Rattle.standing_filters.specs.Watched.{unheld}
use Rattle.standing_filters.proofs.standing.Standing.new.Given as goal

abbrev pub invariant-loop-filter : goal.invariant-loop-filter
invariant-loop-filter l =
    l.standing.filters ≡ map unheld (take l.filter-index l.filters)
