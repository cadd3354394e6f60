use Rattle.std.proofs.Common.{length}
use Rattle.peer_rows.proofs.mosts.Mosts.+of_columns.Given as goal

abbrev pub decreases-of_columns : goal.decreases-of_columns
decreases-of_columns l = length l.rows.now
