use Rattle.std.proofs.Common.{length}
use Rattle.key_text.proofs.ipv6.+push_groups.Given as goal

abbrev pub decreases-push_groups : goal.decreases-push_groups
decreases-push_groups l = length l.text.now
