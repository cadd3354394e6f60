use Rattle.std.proofs.Common.{length}
use Rattle.answer_text.proofs.lists.+period_of.Given as goal

abbrev pub decreases-period_of : goal.decreases-period_of
decreases-period_of l = length l.cols.now
