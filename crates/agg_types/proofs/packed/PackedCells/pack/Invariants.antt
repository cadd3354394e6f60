use Rattle.std.proofs.Common.{◌≡◌, take, true}
use Rattle.agg_types.specs.Packed.{fit_words}
use Rattle.agg_types.proofs.packed.PackedCells.pack.Given as goal

abbrev pub invariant-loop-cell : goal.invariant-loop-cell
invariant-loop-cell l =
    (l.packed ≡ take l.cell-index l.cells) × (fit_words (take l.cell-index l.cells) ≡ true)
