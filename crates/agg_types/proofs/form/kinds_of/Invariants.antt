use Rattle.std.proofs.Common.{take}
use Rattle.agg_types.specs.Form.{FitColumns}
use Rattle.agg_types.proofs.form.kinds_of.Given as goal

abbrev pub invariant-loop-col : goal.invariant-loop-col
invariant-loop-col l = FitColumns (take l.col-index l.cols) l.len l.kinds
