use Rattle.std.proofs.Common.{◌≡◌, take}
use Rattle.std.specs.Prelude.{map}
use Rattle.peer_rows.specs.Packed.{held_of}
use Rattle.peer_rows.proofs.row.spread.Given as goal

-- the cells so far are packed
abbrev pub invariant-loop-col : goal.invariant-loop-col
invariant-loop-col l = map held_of l.cells.items ≡ take l.col l.few
