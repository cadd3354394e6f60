use Rattle.std.proofs.Common.{length}
use Rattle.crossing.proofs.change.+soonest.Given as goal

abbrev pub decreases-soonest : goal.decreases-soonest
decreases-soonest g l = length l.rest.now
