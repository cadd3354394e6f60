use Rattle.std.proofs.Common.{◌≡◌, ◌≤◌, ◌*◌}
use Rattle.update_values.specs.Plan.{widths}
use Rattle.update_values.proofs.plan.widths.Given as goal

abbrev pub invariant-loop-kind : goal.invariant-loop-kind
invariant-loop-kind l = (l.all ≡ widths l.layout l.kind 0) × (l.all ≤ 300 * l.kind)
