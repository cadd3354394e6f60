use Rattle.agg_types.specs.Op.{op_holds}
use Rattle.standing_filters.proofs.Told.{rest_fails}
use Rattle.standing_filters.proofs.judging.+never_met.Goals as goal

pub returns-else-fails_always : goal.returns-else-fails_always
returns-else-fails_always g t c = λ fails at.
    rest_fails (λ cond. op_holds cond.op (g.V.Values.summed c.args.values.now c.args.table
    c.args.key.now cond.col at) cond.bound) c.args.conds.now (c.never_met.ensures fails at)
