use Rattle.std.proofs.Common.{arith}
use Rattle.peer_rows.proofs.Listed.{listed-more, listed-none}
use Rattle.peer_rows.proofs.listing.listed.Goals as goal
use Rattle.peer_rows.proofs.listing.listed.Goals.{in-Some+in_ok-push, in_default}

pub loop-at-preserved : goal.loop-at-preserved
loop-at-preserved c =
    elim c.match-lent.branch [
      | in-Some+in_ok-push w ↦ rw (w.keys-is, w.in_ok-push.ensures.items)
          (listed-more c.loop-at.keys.items w.in-Some.item c.args.index.now.places c.loop-at.at
          (omega (arith, c.places-at-end.ensures, c.loop-at-test.true)) c.loop-at.invariant
          w.in-Some.ensures)
      | in_default w ↦ rw w.keys-is (listed-none c.loop-at.keys.items c.args.index.now.places
          c.loop-at.at (omega (arith, c.places-at-end.ensures, c.loop-at-test.true))
          c.loop-at.invariant w.in_default.ensures)
    ]
