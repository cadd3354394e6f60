use Rattle.std.proofs.Common.{◌≡◌, ◌++◌, length}
use Rattle.std.specs.Prelude.{map}
use Rattle.fleet_model.specs.Normalized.{normalized_cells}
use Rattle.book_rows.specs.Shown.{cell_of}
use Rattle.book_rows.proofs.puts.hold.Given as goal

-- the cells so far, and those that are left
abbrev pub invariant-cells : goal.invariant-cells
invariant-cells l = map (cell_of l.t) l.held ++ normalized_cells l.cols_left l.cells_left
    ≡ map (cell_of l.t) l.fn.held ++ normalized_cells l.cols l.cells

abbrev pub decreases-cells : goal.decreases-cells
decreases-cells l = length l.cols_left
