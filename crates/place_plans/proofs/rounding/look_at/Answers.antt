use Rattle.std.proofs.Common.{◌<◌, ◌-◌, ◌%◌, arith}
use Rattle.place_plans.proofs.Raster.{rest_multiple, step_some}
use Rattle.place_plans.proofs.rounding.look_at.Goals as goal

pub returns-clause-raster : goal.returns-clause-raster
returns-clause-raster c =
    let some : 0 < c.step_for-step.result =
    step_some (c.args.end - c.args.now) c.step_for-step.result c.step_for-step.ensures in
    let below : c.args.end % c.step_for-step.result < c.step_for-step.result = omega arith in
    record {
      step = c.step_for-step.result;
      fits = c.step_for-step.ensures;
      multiple = rest_multiple c.args.end c.step_for-step.result some;
      near = omega arith;
    }
