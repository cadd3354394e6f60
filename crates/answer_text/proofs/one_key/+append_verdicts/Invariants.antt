use Rattle.std.proofs.Common.{length}
use Rattle.answer_text.proofs.one_key.+append_verdicts.Given as goal

abbrev pub decreases-append_verdicts : goal.decreases-append_verdicts
decreases-append_verdicts l = length l.filters.now
