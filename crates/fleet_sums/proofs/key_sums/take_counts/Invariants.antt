use Rattle.std.proofs.Common.{◌-◌}
use Rattle.fleet_sums.proofs.Columns.{IsDone}
use Rattle.fleet_sums.proofs.key_sums.take_counts.Given as goal

abbrev pub invariant-loop-col : goal.invariant-loop-col
invariant-loop-col l = IsDone (λ t n. t - n) l.initial.totals l.row.cells l.col l.totals
