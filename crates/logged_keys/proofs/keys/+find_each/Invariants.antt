use Rattle.std.proofs.Common.{length}
use Rattle.logged_keys.proofs.keys.+find_each.Given as goal

abbrev pub decreases-find_each : goal.decreases-find_each
decreases-find_each l = length l.filters.now
