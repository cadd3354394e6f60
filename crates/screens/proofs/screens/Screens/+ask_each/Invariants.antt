use Rattle.std.proofs.Common.{length}
use Rattle.screens.proofs.screens.Screens.+ask_each.Given as goal

abbrev pub decreases-ask_each : goal.decreases-ask_each
decreases-ask_each l = length l.filters.now
