use Rattle.std.proofs.Common.{◌≡◌, length, take, drop}
use Rattle.update_values.specs.Along.{cells_along}
use Rattle.update_values.proofs.AlongLemmas.{behind_cells}
use Rattle.update_values.proofs.straight.read_straight.Given as goal

abbrev pub invariant-loop-at : goal.invariant-loop-at
invariant-loop-at l =
    (behind_cells (take l.at l.cells) (cells_along (drop l.at l.sources) l.rest)
    ≡ cells_along l.sources l.bytes) × (length l.cells ≡ length l.sources)
