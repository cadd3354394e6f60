use Rattle.std.proofs.Common.{◌≡◌, drop}
use Rattle.update_values.specs.Along.{cells_along}
use Rattle.update_values.proofs.AlongLemmas.{behind_cells}
use Rattle.update_values.proofs.straight.read_packed.Given as goal

abbrev pub invariant-loop-source : goal.invariant-loop-source
invariant-loop-source l =
    behind_cells l.packed (cells_along (drop l.source-index l.sources) l.rest)
    ≡ cells_along l.sources l.bytes
