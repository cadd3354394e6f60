use Rattle.std.proofs.Common.{length}
use Rattle.update_values.proofs.straight.+take_at_most.Given as goal

abbrev pub decreases-take_at_most : goal.decreases-take_at_most
decreases-take_at_most l = length l.sources.now
