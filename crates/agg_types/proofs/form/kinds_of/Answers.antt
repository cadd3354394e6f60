use Rattle.std.proofs.Common.{arith}
use Rattle.agg_types.proofs.PackedWords.{columns-taken}
use Rattle.agg_types.proofs.form.kinds_of.Goals as goal

pub loop-col-preserved : goal.loop-col-preserved
loop-col-preserved c =
    columns-taken c.args.cols.now c.loop-col.col-index c.loop-col.len c.in_ok-len.len
    c.loop-col.kinds c.in_ok-kinds.field-0 c.digit.result _ c.digit.ensures c.loop-col-test.true
    (omega (arith, c.in_ok-len.ensures)) (omega (arith, c.in_ok-kinds.ensures))
    c.loop-col.invariant
