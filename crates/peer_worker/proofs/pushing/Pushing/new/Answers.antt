use Rattle.std.proofs.Common.{subst, sym}
use Rattle.telling.proofs.InOrder.{none_ordered}
use Rattle.telling.specs.Telling.{AreOrdered}
use Rattle.telling.specs.Told.{Told}
use Rattle.peer_worker.proofs.pushing.Pushing.new.Goals as goal

pub invariant_of-result : goal.invariant_of-result
invariant_of-result c =
    subst (λ (told : Told). AreOrdered c.in_ok-pushed.pushed told) (sym c.new-teller.ensures)
    (none_ordered c.in_ok-pushed.pushed)
