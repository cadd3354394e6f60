use Rattle.std.proofs.Common.{◌≡◌, ◌≤◌, ◌*◌, ◌^◌}
use Rattle.std.specs.Prelude.{◌⊎◌}
use Rattle.place_plans.proofs.rounding.step_for.Given as goal

abbrev pub invariant-loop-power : goal.invariant-loop-power
invariant-loop-power l = record {
  power : l.step ≡ 2 ^ l._power;
  most : (l.step ≡ 1) ⊎ (l.step * 64 ≤ l.distance);
}
