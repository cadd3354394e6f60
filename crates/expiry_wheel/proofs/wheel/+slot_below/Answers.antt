use Rattle.std.proofs.Common.{◌+◌, ◌∙◌, ap, sym, arith}
use Rattle.expiry_wheel.proofs.Turning.{slot_zero, slot_here, slot_beyond}
use Rattle.expiry_wheel.proofs.wheel.+slot_below.Goals as goal

pub returns-then-levels-eq0-clause-slot : goal.returns-then-levels-eq0-clause-slot
returns-then-levels-eq0-clause-slot t c =
    sym (slot_zero c.args.levels c.args.now c.args.at (omega arith))

pub returns-then-at-now-clause-slot : goal.returns-then-at-now-clause-slot
returns-then-at-now-clause-slot t c =
    sym (slot_here c.args.levels c.args.now c.args.at (omega arith) (omega arith))

pub returns-else-at-now-clause-slot : goal.returns-else-at-now-clause-slot
returns-else-at-now-clause-slot t c = ap (λ s. 256 + s) c.slot_below.ensures.slot
    ∙ sym (slot_beyond c.args.levels c.args.now c.args.at (omega arith) (λ e. omega arith))
