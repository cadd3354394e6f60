use Rattle.std.proofs.Common.{arith}
use Rattle.agg_types.specs.Op.{op_holds}
use Rattle.standing_filters.proofs.Told.{told_same, one_hold, two_hold, three_hold, four_hold}
use Rattle.standing_filters.proofs.judging.judge_by.Goals as goal

pub returns-in-len1-clause-told : goal.returns-in-len1-clause-told
returns-in-len1-clause-told g c =
    told_same _ _ c.args.now c.tell.result
    (λ t. one_hold (λ cond. op_holds cond.op (g.V.Values.summed c.args.values.now c.args.table
    c.args.key.now cond.col t) cond.bound) c.args.conds.now _ _ _ _ (omega arith)
    (c.live_part-live.ensures.same t) (c.part_of-a.ensures.same t))
    c.tell.ensures.told

pub returns-in-len2-clause-told : goal.returns-in-len2-clause-told
returns-in-len2-clause-told g c =
    told_same _ _ c.args.now c.tell-in-len2.result
    (λ t. two_hold (λ cond. op_holds cond.op (g.V.Values.summed c.args.values.now c.args.table
    c.args.key.now cond.col t) cond.bound) c.args.conds.now _ _ _ _ _ _ (omega arith)
    (c.live_part-live.ensures.same t) (c.part_of-a-in-len2.ensures.same t)
    (c.part_of-b.ensures.same t))
    c.tell-in-len2.ensures.told

pub returns-in-len3-clause-told : goal.returns-in-len3-clause-told
returns-in-len3-clause-told g c =
    told_same _ _ c.args.now c.tell-in-len3.result
    (λ t. three_hold (λ cond. op_holds cond.op (g.V.Values.summed c.args.values.now c.args.table
    c.args.key.now cond.col t) cond.bound) c.args.conds.now _ _ _ _ _ _ _ _ (omega arith)
    (c.live_part-live.ensures.same t) (c.part_of-a-in-len3.ensures.same t)
    (c.part_of-b-in-len3.ensures.same t) (c.part_of-c.ensures.same t))
    c.tell-in-len3.ensures.told

pub returns-in-len4-clause-told : goal.returns-in-len4-clause-told
returns-in-len4-clause-told g c =
    told_same _ _ c.args.now c.tell-in-len4.result
    (λ t. four_hold (λ cond. op_holds cond.op (g.V.Values.summed c.args.values.now c.args.table
    c.args.key.now cond.col t) cond.bound) c.args.conds.now _ _ _ _ _ _ _ _ _ _ (omega arith)
    (c.live_part-live.ensures.same t) (c.part_of-a-in-len4.ensures.same t)
    (c.part_of-b-in-len4.ensures.same t) (c.part_of-c-in-len4.ensures.same t)
    (c.part_of-d.ensures.same t))
    c.tell-in-len4.ensures.told
