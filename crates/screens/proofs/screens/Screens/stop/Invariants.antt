use Rattle.std.proofs.Common.{ℕ, ◌<◌}
use Rattle.screens.specs.Asked.{IsBelow}
use Rattle.screens.proofs.screens.Screens.stop.Given as goal

abbrev pub invariant-loop-place : goal.invariant-loop-place
invariant-loop-place l = (p : ℕ) → p < l.place → IsBelow l.self.least l.rows p
