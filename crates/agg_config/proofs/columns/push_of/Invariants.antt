use Rattle.std.proofs.Common.{◌≡◌, ◌++◌, take, filter}
use Rattle.agg_types.specs.Col.{same_col}
use Rattle.agg_config.proofs.columns.push_of.Given as goal

abbrev pub invariant-loop-stored : goal.invariant-loop-stored
invariant-loop-stored l = l.sorted.items ≡ l.fn.sorted.items
    ++ filter (λ stored. same_col stored.0 l.col) (take l.stored-index l.cols)
