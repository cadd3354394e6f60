use Rattle.std.proofs.Common.{arith}
use Rattle.agg_types.proofs.packed.tell.Goals as goal

pub returns : goal.returns
returns c = λ k. omega (arith, c.type_inv.words k)
