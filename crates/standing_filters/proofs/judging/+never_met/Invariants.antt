use Rattle.std.proofs.Common.{length}
use Rattle.standing_filters.proofs.judging.+never_met.Given as goal

abbrev pub decreases-never_met : goal.decreases-never_met
decreases-never_met g l = length l.conds.now
