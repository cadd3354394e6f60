use Rattle.std.proofs.Common.{length}
use Rattle.standing_filters.proofs.turning.+turn_each.Given as goal

abbrev pub decreases-turn_each : goal.decreases-turn_each
decreases-turn_each g l = length l.watches.now
