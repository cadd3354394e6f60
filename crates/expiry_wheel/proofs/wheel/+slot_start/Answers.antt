use Rattle.std.proofs.Common.{◌*◌, ◌∙◌, ap, sym, arith}
use Rattle.expiry_wheel.proofs.Turning.{start_zero, start_here, start_beyond}
use Rattle.expiry_wheel.proofs.wheel.+slot_start.Goals as goal

pub returns-then-levels-eq0-clause-start : goal.returns-then-levels-eq0-clause-start
returns-then-levels-eq0-clause-start t c =
    sym (start_zero c.args.levels c.args.now c.args.at (omega arith))

pub returns-then-at-now-clause-start : goal.returns-then-at-now-clause-start
returns-then-at-now-clause-start t c =
    sym (start_here c.args.levels c.args.now c.args.at (omega arith))

pub returns-else-at-now-clause-start : goal.returns-else-at-now-clause-start
returns-else-at-now-clause-start t c = ap (λ s. 256 * s) c.slot_start.ensures.start
    ∙ sym (start_beyond c.args.levels c.args.now c.args.at (omega arith) (λ e. omega arith))
