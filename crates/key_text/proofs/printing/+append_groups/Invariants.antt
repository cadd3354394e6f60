use Rattle.std.proofs.Common.{length}
use Rattle.key_text.proofs.printing.+append_groups.Given as goal

abbrev pub decreases-append_groups : goal.decreases-append_groups
decreases-append_groups l = length l.key.now
