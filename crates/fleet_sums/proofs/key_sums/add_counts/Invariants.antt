use Rattle.std.proofs.Common.{ℕ, ◌+◌, ◌-◌, ◌^◌, ◌≤◌, get_or}
use Rattle.fleet_sums.proofs.Columns.{IsDone}
use Rattle.fleet_sums.proofs.key_sums.add_counts.Given as goal

abbrev pub invariant-loop-col : goal.invariant-loop-col
invariant-loop-col l = record {
  done : IsDone (λ t n. t + n) l.initial.totals l.row.cells l.col l.totals;
  bound : (k : ℕ) → get_or l.totals k 0 ≤ get_or l.initial.totals k 0 + (2 ^ 64 - 1);
}
