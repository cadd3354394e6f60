use Rattle.std.proofs.Common.{length}
use Rattle.standing_filters.proofs.touching.+reserve_each.Given as goal

abbrev pub decreases-reserve_each : goal.decreases-reserve_each
decreases-reserve_each l = length l.watches.now
