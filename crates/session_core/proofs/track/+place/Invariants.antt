use Rattle.std.proofs.Common.{length}
use Rattle.session_core.proofs.track.+place.Given as goal

abbrev pub decreases-place : goal.decreases-place
decreases-place l = length l.entries.now
