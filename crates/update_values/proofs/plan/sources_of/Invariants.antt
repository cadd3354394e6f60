use Rattle.std.proofs.Common.{◌≡◌, take, map}
use Rattle.update_values.specs.Plan.{source_of}
use Rattle.update_values.proofs.plan.sources_of.Given as goal

abbrev pub invariant-loop-col : goal.invariant-loop-col
invariant-loop-col l =
    l.sources.items ≡ map (source_of l.layout l.count) (take l.col-index l.cols)
