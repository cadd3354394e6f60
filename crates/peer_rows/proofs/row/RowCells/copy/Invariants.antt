use Rattle.std.proofs.Common.{◌≡◌, take}
use Rattle.peer_rows.proofs.row.RowCells.copy.Given as goal

-- the cells so far are copied
abbrev pub invariant-loop-cell : goal.invariant-loop-cell
invariant-loop-cell l = l.cells ≡ take l.cell-index l.held
