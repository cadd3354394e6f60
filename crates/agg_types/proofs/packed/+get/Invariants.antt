use Rattle.agg_types.proofs.packed.+get.Given as goal

abbrev pub decreases-get : goal.decreases-get
decreases-get l = l.len
