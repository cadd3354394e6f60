use Rattle.std.proofs.Common.{◌≡◌, length, take, map}
use Rattle.update_values.specs.Plan.{cell_from}
use Rattle.update_values.proofs.plan.fill.Given as goal

abbrev pub invariant-loop-at : goal.invariant-loop-at
invariant-loop-at l =
    (take l.at l.cells ≡ map (cell_from l.numbers) (take l.at l.sources))
    × (length l.cells ≡ length l.sources)
