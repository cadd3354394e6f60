use Rattle.std.proofs.Common.{arith}
use Rattle.segments.proofs.Joined.{AreBlank-push}
use Rattle.segments.proofs.segments.add_blank.Goals as goal

pub loop-have-preserved : goal.loop-have-preserved
loop-have-preserved g c =
    record {
      blanks = rw c.in_ok-push.ensures.items
          (AreBlank-push c.loop-have.blank.items c.in_ok-segment.segment
          c.loop-have.invariant.blanks c.in_ok-segment.ensures);
      counted = omega (arith, c.in_ok-push.ensures.len);
      bounded = λ most was wanted. omega arith;
    }

pub returns-clause-bound : goal.returns-clause-bound
returns-clause-bound g c =
    λ most was wanted. omega (arith, c.loop-have.invariant.bounded most was wanted)
