use Rattle.std.proofs.Common.{◌≡◌, length}
use Rattle.session_core.specs.Asking.{asks_all}
use Rattle.session_core.proofs.batch.has_partial.Given as goal

-- what is left decides
abbrev pub invariant-pairs : goal.invariant-pairs
invariant-pairs l = asks_all l.left ≡ asks_all l.replies

abbrev pub decreases-pairs : goal.decreases-pairs
decreases-pairs l = length l.left
