use Rattle.std.proofs.Common.{◌≡◌, take}
use Rattle.agg_config.specs.Columns.{ordered_by}
use Rattle.agg_config.proofs.columns.ordered_by.Given as goal

abbrev pub invariant-loop-col : goal.invariant-loop-col
invariant-loop-col l = l.sorted.items ≡ ordered_by (take l.col-index l.order) l.cols
