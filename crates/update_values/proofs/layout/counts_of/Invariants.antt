use Rattle.std.proofs.Common.{◌≡◌, drop, length}
use Rattle.update_values.specs.Layout.{counts_after, counts_of}
use Rattle.update_values.proofs.layout.counts_of.Given as goal

abbrev pub invariant-loop-array : goal.invariant-loop-array
invariant-loop-array l =
    (length l.counts ≡ 3)
    × (counts_after l.counts (drop l.array-index l.definition.arrays)
    ≡ counts_of l.definition)
