use Rattle.std.proofs.Common.{sym, arith}
use Rattle.peer_rows.proofs.Widths.{packed-more, past_from_none}
use Rattle.peer_rows.proofs.row.spread.Goals as goal
use Rattle.peer_rows.proofs.row.spread.Goals.{in-Some+in_ok-push, in_default}

pub loop-col-preserved : goal.loop-col-preserved
loop-col-preserved c =
    elim c.match-get.branch [
      | in-Some+in_ok-push w ↦ rw (w.cells-is, w.in_ok-push.ensures.items)
          (packed-more c.loop-col.cells.items w.new.result w.in-Some.held
          c.args.few.now
          c.loop-col.col c.loop-col.invariant w.new.ensures (sym w.in-Some.ensures))
      | in_default w ↦ let past = past_from_none c.args.few.now
          c.loop-col.col
          (sym w.in_default.ensures) in absurd (omega (
            arith,
            past,
            c.len-col-end.ensures,
            c.loop-col-test.true,
          ))
    ]
