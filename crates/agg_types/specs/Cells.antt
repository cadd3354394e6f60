use Rattle.std.specs.Prelude.{List}
use Rattle.agg_types.specs.declared.cells.Form.{Form}
use Rattle.agg_types.specs.declared.cells.Form.TheVariants.{Few, Many}
use Rattle.agg_types.specs.declared.event.Cell.{Cell}

-- the cells, wherever they lie
abbrev pub form_cells : Form → List Cell
form_cells (Few cells) = cells
form_cells (Many cells) = cells
