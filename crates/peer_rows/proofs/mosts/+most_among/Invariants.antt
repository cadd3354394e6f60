use Rattle.std.proofs.Common.{length}
use Rattle.peer_rows.proofs.mosts.+most_among.Given as goal

abbrev pub decreases-most_among : goal.decreases-most_among
decreases-most_among l = length l.rows.now
