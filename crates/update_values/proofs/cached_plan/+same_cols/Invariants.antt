use Rattle.std.proofs.Common.{length}
use Rattle.update_values.proofs.cached_plan.+same_cols.Given as goal

abbrev pub decreases-same_cols : goal.decreases-same_cols
decreases-same_cols l = length l.left.now
