use Rattle.std.proofs.Common.{◌∙◌, arith}
use Rattle.peer_rows.proofs.Widths.{few-last, few-others}
use Rattle.peer_rows.proofs.few.+get.Goals as goal

pub returns-then-col-before : goal.returns-then-col-before
returns-then-col-before t c =
    few-last c.args.len c.args.kinds c.args.words.now c.args.col c.cell.result (omega arith)
    c.if-col-before.true (rw (← c.last.ensures, ← c.total-at.ensures.value) c.cell.ensures)

pub returns : goal.returns
returns t c =
    c.get.ensures
    ∙ few-others c.args.len c.args.kinds c.args.words.now c.args.col (omega arith)
    c.if-col-before.false
