use Rattle.std.proofs.Common.{length}
use Rattle.update_values.proofs.straight.+is_straight.Given as goal

abbrev pub decreases-is_straight : goal.decreases-is_straight
decreases-is_straight l = length l.sources.now
