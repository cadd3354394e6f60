use Rattle.peer_worker.proofs.attending.stand_by.Goals as goal

pub returns-clause-takes : goal.returns-clause-takes
returns-clause-takes g c =
    λ seated start given more gives w.
    c.attend.ensures.takes seated start given more gives (rw c.let_go.ensures w)
