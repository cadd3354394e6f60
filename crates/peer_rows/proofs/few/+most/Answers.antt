use Rattle.std.proofs.Common.{◌∙◌, refl, arith}
use Rattle.peer_rows.proofs.Counting.{most_at_last, most_at_same}
use Rattle.peer_rows.proofs.Widths.{few-last, few-others}
use Rattle.peer_rows.proofs.few.+most.Goals as goal

pub returns-then-col-before : goal.returns-then-col-before
returns-then-col-before t c =
    rw (← c.last.ensures, ← c.total-at.ensures.value) c.worth.ensures
    ∙ most_at_last _ c.args.col _ (few-last c.args.len c.args.kinds c.args.words.now c.args.col _
    (omega arith) c.if-col-before.true refl)

pub returns : goal.returns
returns t c =
    c.most.ensures
    ∙ most_at_same _ _ c.args.col (few-others c.args.len c.args.kinds c.args.words.now c.args.col
    (omega arith) c.if-col-before.false)
