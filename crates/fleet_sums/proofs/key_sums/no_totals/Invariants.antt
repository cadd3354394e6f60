use Rattle.std.proofs.Common.{◌≡◌, replicate}
use Rattle.fleet_sums.proofs.key_sums.no_totals.Given as goal

abbrev pub invariant-loop-col : goal.invariant-loop-col
invariant-loop-col l = l.totals.items ≡ replicate l._col 0
