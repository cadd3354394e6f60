use Rattle.std.proofs.Common.{◌≤◌}
use Rattle.standing_filters.proofs.standing.Standing.few_by.Given as goal

abbrev pub invariant-loop-watch : goal.invariant-loop-watch
invariant-loop-watch l = l.by ≤ l.fn.t
