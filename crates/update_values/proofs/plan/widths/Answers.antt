use Rattle.std.proofs.Common.{arith}
use Rattle.update_values.proofs.PlanLemmas.{widths_more}
use Rattle.update_values.proofs.plan.widths.Goals as goal

pub loop-kind-preserved : goal.loop-kind-preserved
loop-kind-preserved c = (
  rw c.width_of-all.ensures.all (widths_more c.args.layout.now c.loop-kind.kind
      c.loop-kind.all c.loop-kind.invariant.0),
  omega (arith, c.width_of-all.ensures.small, c.loop-kind.invariant.1),
)
