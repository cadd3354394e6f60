use Rattle.std.proofs.Common.{◌≡◌, ◌%◌, arith}
use Rattle.peer_rows.specs.Few.{kind_of, width}
use Rattle.peer_rows.proofs.Widths.{total-last}
use Rattle.peer_rows.proofs.few.total.Goals as goal

pub loop-left-preserved : goal.loop-left-preserved
loop-left-preserved c =
    let last = total-last c.loop-left.left c.loop-left.digits
    (omega (arith, c.loop-left-test.true)) in
    let own : c.width-used.result ≡ width (kind_of (c.loop-left.digits % 4)) =
    rw (← c.last.ensures) c.width-used.ensures.value in (
      omega (arith, own, last, c.loop-left.invariant.0),
      omega (arith, c.width-used.ensures.some, c.loop-left.invariant.1, c.loop-left-test.true),
      omega (arith, c.width-used.ensures.small, c.loop-left.invariant.2, c.loop-left-test.true),
    )
