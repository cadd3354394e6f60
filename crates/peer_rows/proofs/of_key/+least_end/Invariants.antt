use Rattle.std.proofs.Common.{length}
use Rattle.peer_rows.proofs.of_key.+least_end.Given as goal

abbrev pub decreases-least_end : goal.decreases-least_end
decreases-least_end l = length l.rows
