use Rattle.place_order.proofs.descent.+take.Given as goal

abbrev pub decreases-take : goal.decreases-take
decreases-take g l = l.most
