use Rattle.peer_rows.proofs.arriving.+date.Given as goal

abbrev pub decreases-date : goal.decreases-date
decreases-date l = l.len
