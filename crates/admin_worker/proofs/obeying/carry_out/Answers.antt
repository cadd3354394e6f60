use Rattle.admin_worker.proofs.obeying.carry_out.Goals as goal

pub returns-in-Some-clause-changes : goal.returns-in-Some-clause-changes
returns-in-Some-clause-changes g c =
    rw c.in-Some.is
    (λ since seat whats learned. c.post_change.ensures.changes since seat whats learned)
