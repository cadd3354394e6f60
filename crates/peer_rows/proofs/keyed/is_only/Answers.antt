use Rattle.peer_rows.proofs.keyed.is_only.Goals as goal

pub returns-in-Some : goal.returns-in-Some
returns-in-Some c = rw (← c.in-Some.ensures) c.is_only.ensures

pub returns-in-None : goal.returns-in-None
returns-in-None c = rw (← c.in-None.ensures) tt
