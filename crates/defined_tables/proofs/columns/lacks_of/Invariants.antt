use Rattle.std.proofs.Common.{◌≡◌, ◌++◌, drop}
use Rattle.defined_tables.specs.Lacks.{lacks_in}
use Rattle.defined_tables.proofs.columns.lacks_of.Given as goal

-- what lacks so far, and of the columns that are left, is all
abbrev pub invariant-loop-col : goal.invariant-loop-col
invariant-loop-col l =
    l.lacks.items ++ lacks_in l.definition (drop l.col-index l.shape.cols)
    ≡ lacks_in l.definition l.shape.cols
