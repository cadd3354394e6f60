use Rattle.hub.proofs.Replacing.{NoneYet}
use Rattle.hub.proofs.pass.Pass.replaced.Given as goal

abbrev pub invariant-loop-place : goal.invariant-loop-place
invariant-loop-place g l = NoneYet l.self l.front.events l.whats l.place
