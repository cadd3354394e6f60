use Rattle.std.proofs.Common.{length}
use Rattle.agg_types.proofs.check.+ascends.Given as goal

abbrev pub decreases-ascends : goal.decreases-ascends
decreases-ascends l = length l.cols.now
