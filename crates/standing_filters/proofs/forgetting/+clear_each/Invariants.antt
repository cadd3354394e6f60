use Rattle.std.proofs.Common.{length}
use Rattle.standing_filters.proofs.forgetting.+clear_each.Given as goal

abbrev pub decreases-clear_each : goal.decreases-clear_each
decreases-clear_each l = length l.watches.now
