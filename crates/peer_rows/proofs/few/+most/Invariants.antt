use Rattle.peer_rows.proofs.few.+most.Given as goal

abbrev pub decreases-most : goal.decreases-most
decreases-most l = l.len
