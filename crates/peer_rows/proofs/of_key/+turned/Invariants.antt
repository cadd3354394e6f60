use Rattle.std.proofs.Common.{length}
use Rattle.peer_rows.proofs.of_key.+turned.Given as goal

abbrev pub decreases-turned : goal.decreases-turned
decreases-turned l = length l.later.now
