use Rattle.std.proofs.Common.{◌+◌, ◌-◌, ◌^◌, ◌≤◌}
use Rattle.crossing.specs.Looks.{IsWithin}
use Rattle.crossing.proofs.Halves.{IsSpan}
use Rattle.crossing.proofs.between.between.Given as goal

abbrev pub invariant-loop-high : goal.invariant-loop-high
invariant-loop-high g l = record {
  span : IsSpan (g.F.Falls.value l.fall) l.bound l.fn.not_yet l.low l.high;
  within : l.fn.below ≤ l.fn.not_yet + 2 ^ l.looks
      → IsWithin (l.fn.meter.evals + l.looks) (l.meter.evals + l.spare) (l.high - l.low);
}

abbrev pub decreases-loop-high : goal.decreases-loop-high
decreases-loop-high g l = l.high - l.low
