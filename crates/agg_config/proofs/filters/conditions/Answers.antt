use Rattle.std.proofs.Common.{sym, ◌∙◌}
use Rattle.std.proofs.lemmas.Result.{err_from_is_err_and}
use Rattle.agg_config.specs.Filters.{conditions}
use Rattle.agg_config.proofs.Conditions.{goes_on, ends, done, full, ended}
use Rattle.agg_config.proofs.filters.conditions.Goals as goal

pub returns-then-is_empty : goal.returns-then-is_empty
returns-then-is_empty c =
    done c.loop.conds.items c.loop.counter c.loop.words (conditions 4 c.args.words.now)
    c.loop-test.true (sym c.if-is_empty.ensures) c.loop.invariant

pub returns-in_err-condition : goal.returns-in_err-condition
returns-in_err-condition c =
    let p = err_from_is_err_and c.from_residual.result c.from_residual.ensures.1 in
    let some = sym c.is_empty.ensures ∙ c.if-is_empty.false in
    rw (p.1, p.2) (ends c.loop.conds.items c.loop.counter c.loop.words
    c.in_err-condition.field-0.0 (conditions 4 c.args.words.now) c.loop-test.true some
    c.in_err-condition.ensures c.loop.invariant)

pub loop-preserved : goal.loop-preserved
loop-preserved c =
    let some = sym c.is_empty.ensures ∙ c.if-is_empty.false in
    rw c.in_ok-push.ensures.items (goes_on c.loop.conds.items c.loop.counter
    c.loop.words c.condition.new.words c.in_ok-condition.field-0
    (conditions 4 c.args.words.now) c.loop-test.true some c.in_ok-condition.ensures
    c.loop.invariant)

pub returns-in_err-end : goal.returns-in_err-end
returns-in_err-end c =
    let p = err_from_is_err_and c.from_residual-in_err-end.result
    c.from_residual-in_err-end.ensures.1 in
    rw (p.1, p.2) (full c.loop.conds.items c.loop.counter c.loop.words
    c.in_err-end.field-0.0 (conditions 4 c.args.words.now) c.loop-test.false
    c.in_err-end.ensures c.loop.invariant)

pub returns : goal.returns
returns c =
    ended c.loop.conds.items c.loop.counter c.loop.words _ (conditions 4 c.args.words.now)
    c.loop-test.false c.in_ok-end.ensures c.loop.invariant
