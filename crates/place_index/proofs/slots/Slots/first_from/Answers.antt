use Rattle.std.proofs.Common.{arith}
use Rattle.place_index.proofs.slots.Slots.first_from.Goals as goal

pub returns-clause-none : goal.returns-clause-none
returns-clause-none g c = λ q since within. c.loop-at.invariant q since (omega arith)
