use Rattle.std.proofs.Common.{◌≡◌, ◌-◌, ◌/◌, ◌%◌, ◌<◌, ◌∙◌, arith, sym}
use Rattle.agg_types.specs.Packed.{cell_at, total_width}
use Rattle.agg_types.proofs.PackedWords.{packed-last, packed-others, total-last}
use Rattle.agg_types.proofs.packed.+get.Goals as goal

pub returns-then-col-before : goal.returns-then-col-before
returns-then-col-before t c =
    let some : 0 < c.args.len = omega (arith, c.if-len-eq0.false) in
    let start : c.args.used - c.width.result
    ≡ total_width (c.args.len - 1) (c.args.kinds / 4) =
    omega (arith, c.requires.used, total-last c.args.len c.args.kinds some, c.width.ensures) in
    let cell : c.cell.result ≡ cell_at (c.args.kinds % 4) c.args.words.now
    (total_width (c.args.len - 1) (c.args.kinds / 4)) = rw (← start) c.cell.ensures in
    rw (cell, c.if-col-before.true)
    (sym (packed-last c.args.len c.args.kinds c.args.words.now some))

pub returns : goal.returns
returns t c =
    let some : 0 < c.args.len = omega (arith, c.if-len-eq0.false) in
    c.get.ensures ∙ sym (packed-others c.args.len c.args.kinds c.args.words.now c.args.col some
    c.if-col-before.false)
