use Rattle.fleet_core.proofs.HandingOver.{one_less, one_more_taken}
use Rattle.fleet_core.proofs.waiting.Waiting.flush.Goals as goal

pub loop-preserved : goal.loop-preserved
loop-preserved c =
    record {
      handed = one_more_taken c.args.self.now c.args.book.now c.loop.self c.loop.book
          c.hand_over.new.self c.hand_over.new.book c.loop.invariant.handed
          c.in_ok-hand_over.ensures.ok;
      left = one_less c.loop.self c.loop.book c.hand_over.new.self c.hand_over.new.book
          c.loop.counter _ c.in_ok-hand_over.ensures.ok c.loop.invariant.left c.loop-test.true;
    }
