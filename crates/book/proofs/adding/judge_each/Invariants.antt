use Rattle.std.proofs.Common.{◌≡◌, ◌+◌, ◌*◌, ◌≤◌, length}
use Rattle.book.specs.Ahead.{AreAhead}
use Rattle.book.proofs.adding.judge_each.Given as goal

abbrev pub invariant-loop-key : goal.invariant-loop-key
invariant-loop-key l = record {
  ahead : AreAhead l.machine l.table l.key-iterator l.adding;
  filter : l.adding.filter ≡ l.fn.adding.filter;
  few : l.meter.evals + 505 * length l.key-iterator ≤ l.fn.meter.evals + 505 * length l.fn.walk;
}
