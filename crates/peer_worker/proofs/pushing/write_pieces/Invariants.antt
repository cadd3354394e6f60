use Rattle.std.proofs.Common.{Ok}
use Rattle.peer_worker.specs.Tellings.{WritesOn}
use Rattle.peer_worker.proofs.pushing.write_pieces.Given as goal

-- what was written so far
abbrev pub invariant-loop : goal.invariant-loop
invariant-loop g l =
    WritesOn l.pushed l.fn.unsaid l.unsaid (g.W.Write.contents l.fn.writer)
    (g.W.Write.contents l.writer) (Ok (tt {0}))
