use Rattle.std.proofs.Common.{length}
use Rattle.test_texts.proofs.commands.ask_all.Given as goal

abbrev pub decreases-loop-line : goal.decreases-loop-line
decreases-loop-line g l = length l.rest
