use Rattle.std.proofs.Common.{◌∙◌}
use Rattle.book_machine.proofs.leaders.drop_ended.Goals as goal

pub loop-table-preserved : goal.loop-table-preserved
loop-table-preserved c = record {
  count = c.drop_gone.ensures.count ∙ c.loop-table.invariant.count;
  led = λ tables led. c.drop_gone.ensures.led tables (c.loop-table.invariant.led tables led);
}
