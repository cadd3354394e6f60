use Rattle.std.proofs.Common.{length}
use Rattle.haproxy_import.proofs.same.+same_cols.Given as goal

abbrev pub decreases-same_cols : goal.decreases-same_cols
decreases-same_cols l = length l.some.now
