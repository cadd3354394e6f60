use Rattle.std.proofs.Common.{length}
use Rattle.agg_types.proofs.fits.+packed_fit.Given as goal

abbrev pub decreases-packed_fit : goal.decreases-packed_fit
decreases-packed_fit l = length l.cols.now
