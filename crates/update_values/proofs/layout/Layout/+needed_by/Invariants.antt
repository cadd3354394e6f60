use Rattle.std.proofs.Common.{length}
use Rattle.update_values.proofs.layout.Layout.+needed_by.Given as goal

abbrev pub decreases-needed_by : goal.decreases-needed_by
decreases-needed_by l = length l.cols.now
