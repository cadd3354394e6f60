use Rattle.std.proofs.Common.{length}
use Rattle.standing_filters.proofs.touching.+touch_each.Given as goal

abbrev pub decreases-touch_each : goal.decreases-touch_each
decreases-touch_each g l = length l.watches.now
