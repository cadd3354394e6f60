use Rattle.place_order.proofs.descent.+put.Given as goal

abbrev pub decreases-put : goal.decreases-put
decreases-put g l = l.most
