use Rattle.peer_rows.proofs.few.+get.Given as goal

abbrev pub decreases-get : goal.decreases-get
decreases-get l = l.len
