use Rattle.std.specs.Prelude.{List, map}
use Rattle.peer_rows.specs.Packed.{held_of}
use Rattle.peer_rows.specs.declared.row.Held.{Held}
use Rattle.peer_rows.specs.declared.row.Form.{Form}
use Rattle.peer_rows.specs.declared.row.Form.TheVariants.{Few, Many}

-- the cells, which lie in the value itself or in a block
abbrev pub cells_in : Form → List Held
cells_in (Few cells) = cells
cells_in (Many cells) = map held_of cells.items
