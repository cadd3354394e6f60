use Rattle.std.proofs.Common.{◌≡◌, ◌+◌, ◌≤◌, ◌++◌, length, take}
use Rattle.std.specs.Prelude.{vec_capacity, vec_len}
use Rattle.agg_types.proofs.whats.lay.Given as goal

abbrev pub invariant-loop-cell : goal.invariant-loop-cell
invariant-loop-cell l =
    (l.all.items ≡ l.initial.all.items ++ take l.cell-index l.cells)
    × (vec_len l.all + length l.cells ≤ vec_capacity l.all + l.cell-index)
