use Rattle.std.proofs.Common.{length}
use Rattle.standing_filters.proofs.judging.+hold_now.Given as goal

abbrev pub decreases-hold_now : goal.decreases-hold_now
decreases-hold_now g l = length l.parts.now
