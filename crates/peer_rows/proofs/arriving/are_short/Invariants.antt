use Rattle.std.proofs.Common.{take}
use Rattle.peer_rows.specs.Arriving.{AreShort}
use Rattle.peer_rows.proofs.arriving.are_short.Given as goal

abbrev pub invariant-loop-col : goal.invariant-loop-col
invariant-loop-col l = AreShort (take l.col-index l.cols)
