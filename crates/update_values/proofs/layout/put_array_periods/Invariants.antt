use Rattle.std.proofs.Common.{◌≡◌, drop, length}
use Rattle.update_values.specs.Layout.{array_periods_after}
use Rattle.update_values.proofs.layout.put_array_periods.Given as goal

abbrev pub invariant-loop-array : goal.invariant-loop-array
invariant-loop-array l =
    (length l.periods ≡ length l.fn.periods)
    × (array_periods_after l.periods (drop l.array-index l.arrays)
    ≡ array_periods_after l.fn.periods l.arrays)
