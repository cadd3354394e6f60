use Rattle.replay.specs.Source.{OfLines}
use Rattle.replay.proofs.SoFar.{SourceSoFar}
use Rattle.replay.proofs.running.run.Given as goal

abbrev pub invariant-lines : goal.invariant-lines
invariant-lines g l = OfLines (g.R.Read.remaining l.fn.script) (g.R.Read.remaining l.script)
    (SourceSoFar l.fn.config l.fn.opening l.fn.first (g.W.Write.contents l.fn.out) l.fleet
    l.number (g.W.Write.contents l.out))
