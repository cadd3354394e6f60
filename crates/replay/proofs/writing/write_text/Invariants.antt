use Rattle.replay.proofs.Written.{Left}
use Rattle.replay.proofs.writing.write_text.Given as goal

abbrev pub invariant-writes : goal.invariant-writes
invariant-writes g l = Left (g.W.Write.contents l.fn.out) (g.W.Write.contents l.out) l.text l.left
