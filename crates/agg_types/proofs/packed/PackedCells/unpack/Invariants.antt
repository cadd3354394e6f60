use Rattle.std.proofs.Common.{◌≡◌, take}
use Rattle.agg_types.proofs.packed.PackedCells.unpack.Given as goal

abbrev pub invariant-loop-col : goal.invariant-loop-col
invariant-loop-col l = l.cells ≡ take l.col l.self
