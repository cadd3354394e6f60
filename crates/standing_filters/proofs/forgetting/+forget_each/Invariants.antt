use Rattle.std.proofs.Common.{length}
use Rattle.standing_filters.proofs.forgetting.+forget_each.Given as goal

abbrev pub decreases-forget_each : goal.decreases-forget_each
decreases-forget_each l = length l.watches.now
