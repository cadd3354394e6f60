use Rattle.place_order.proofs.descent.+last_in.Given as goal

abbrev pub decreases-last_in : goal.decreases-last_in
decreases-last_in l = l.most
