use Rattle.std.proofs.Common.{length}
use Rattle.screens.proofs.screens.+asked_by.Given as goal

abbrev pub decreases-asked_by : goal.decreases-asked_by
decreases-asked_by l = length l.conds.now
