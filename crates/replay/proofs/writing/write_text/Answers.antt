use Rattle.replay.proofs.Written.{left_kept, left_less}
use Rattle.replay.proofs.writing.write_text.Goals as goal
use Rattle.replay.proofs.writing.write_text.Goals.{in-Ok, in-Err}

pub writes-preserved : goal.writes-preserved
writes-preserved g c =
    elim c.match-write.branch [
      | in-Ok w ↦ rw (w.left-is, w.behind-left.ensures)
          (left_less _ _ _ _ _ _ c.writes.invariant w.in-Ok.ensures.bytes)
      | in-Err w ↦ rw w.left-is (left_kept _ _ _ _ _ c.writes.invariant w.in-Err.ensures.bytes)
    ]
