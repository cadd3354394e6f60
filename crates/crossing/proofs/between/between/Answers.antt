use Rattle.std.proofs.Common.{arith}
use Rattle.std.proofs.lemmas.Bool.Decides.{nat_tests}
use Rattle.crossing.proofs.Halves.{begun, one_look}
use Rattle.crossing.proofs.between.between.Goals as goal

pub loop-high-init : goal.loop-high-init
loop-high-init g c = record {
  span = record {
    apart = c.requires.apart;
    since = omega arith;
    not_yet = c.requires.not_yet;
    below = c.requires.below;
  };
  within = λ span. begun _ _ _ _ (c.spare_looks-spare.ensures (omega arith));
}

pub loop-high-preserved-then-is_below : goal.loop-high-preserved-then-is_below
loop-high-preserved-then-is_below g c = record {
  span = record {
    apart = omega arith;
    since = omega (arith, c.loop-high.invariant.span.since);
    not_yet = c.loop-high.invariant.span.not_yet;
    below = grind (arith, nat_tests);
  };
  within = λ span. one_look _ _ _ _ _ _ _ (omega arith) c.loop-high-test.true (omega arith)
      (λ none. (c.look_at-look.ensures.halves none).0) (omega arith)
      (c.loop-high.invariant.within span);
}

pub loop-high-preserved : goal.loop-high-preserved
loop-high-preserved g c = record {
  span = record {
    apart = omega arith;
    since = omega (arith, c.loop-high.invariant.span.since);
    not_yet = grind (arith, nat_tests);
    below = c.loop-high.invariant.span.below;
  };
  within = λ span. one_look _ _ _ _ _ _ _ (omega arith) c.loop-high-test.true (omega arith)
      (λ none. (c.look_at-look.ensures.halves none).1) (omega arith)
      (c.loop-high.invariant.within span);
}
