use Rattle.std.proofs.lemmas.Result.{err_from_is_err_and}
use Rattle.agg_types.proofs.Checking.{each-fault_at}
use Rattle.agg_types.proofs.check.check_each.Goals as goal

pub returns-in_err-check_behind : goal.returns-in_err-check_behind
returns-in_err-check_behind g c =
    let p = err_from_is_err_and c.from_residual.result c.from_residual.ensures.1 in
    rw (p.1, p.2, ← c.loop-i.invariant.0, c.loop-i.invariant.1) (each-fault_at
    (g.T.Checked.faults c.args.config.now) c.as_slice-listed.result.now c.loop-i.i
    c.index-listed-i.result _ c.loop-i-test.true c.index-listed-i.is
    c.in_err-check_behind.ensures)
