use Rattle.std.proofs.Common.{◌≡◌, List, false, rules, subst}
use Rattle.agg_types.specs.declared.config.Cond.{Cond}
use Rattle.standing_filters.proofs.Told.{dead_never, never_in, told_out}
use Rattle.std.specs.List.{list_all}
use Rattle.agg_types.specs.Op.{op_holds}
use Rattle.standing_filters.proofs.judging.judge.Goals as goal

pub returns-then-never_met-clause-verdict : goal.returns-then-never_met-clause-verdict
returns-then-never_met-clause-verdict g c =
    let table = c.args.filter.now.table in
    let key = c.args.key.now in
    never_in (g.V.Values.living c.args.values.now table key)
    (λ t. list_all (λ cond. op_holds cond.op (g.V.Values.summed c.args.values.now table key
    cond.col t) cond.bound) c.args.filter.now.conds) c.args.now
    (λ t. subst (λ (conds : List Cond). list_all (λ cond. op_holds cond.op
    (g.V.Values.summed c.args.values.now table key cond.col t) cond.bound) conds ≡ false)
    c.as_slice-conds.ensures (c.never_met.ensures (search (rules, c.if-never_met.true)) t))

pub returns-clause-dead : goal.returns-clause-dead
returns-clause-dead g c = λ dead.
    let table = c.args.filter.now.table in
    let key = c.args.key.now in
    told_out _ c.args.now c.judge_by.result
    (λ t later. dead_never (g.V.Values.living c.args.values.now table key)
    (λ t. list_all (λ cond. op_holds cond.op (g.V.Values.summed c.args.values.now table key
    cond.col t) cond.bound) c.as_slice-conds.result.now) c.args.now t dead
    (g.met.V.Values.rows_end c.args.values.now table key c.args.now t later))
    c.judge_by.ensures.told
