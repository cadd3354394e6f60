use Rattle.std.proofs.Common.{length}
use Rattle.peer_rows.proofs.of_key.+first_ended.Given as goal

abbrev pub decreases-first_ended : goal.decreases-first_ended
decreases-first_ended l = length l.rows
