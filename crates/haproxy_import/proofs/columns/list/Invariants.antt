use Rattle.std.proofs.Common.{length}
use Rattle.haproxy_import.proofs.columns.list.Given as goal

abbrev pub decreases-items : goal.decreases-items
decreases-items l = length l.left
