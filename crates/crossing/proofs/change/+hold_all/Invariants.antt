use Rattle.std.proofs.Common.{length}
use Rattle.crossing.proofs.change.+hold_all.Given as goal

abbrev pub decreases-hold_all : goal.decreases-hold_all
decreases-hold_all g l = length l.parts.now
