use Rattle.std.proofs.Common.{arith}
use Rattle.crossing.proofs.Halves.{beside}
use Rattle.crossing.proofs.between.spare_looks.Goals as goal

pub returns-then-span-le-SHORT : goal.returns-then-span-le-SHORT
returns-then-span-le-SHORT c = λ span. beside 16 _ _ _ (omega arith) (omega arith) span

pub returns-then-span-le-MIDDLE : goal.returns-then-span-le-MIDDLE
returns-then-span-le-MIDDLE c = λ span. beside 20 _ _ _ (omega arith) (omega arith) span

pub returns-then-span-le-LONG : goal.returns-then-span-le-LONG
returns-then-span-le-LONG c = λ span. beside 26 _ _ _ (omega arith) (omega arith) span
