use Rattle.std.proofs.Common.{length}
use Rattle.haproxy_import.proofs.columns.columns.Given as goal

abbrev pub decreases-words : goal.decreases-words
decreases-words l = length l.left
