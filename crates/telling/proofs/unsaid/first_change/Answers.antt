use Rattle.pushed_keys.proofs.Rest.{drop_here}
use Rattle.telling.proofs.Steps.{past_here, past_more}
use Rattle.telling.proofs.unsaid.first_change.Goals as goal

pub loop-at-init : goal.loop-at-init
loop-at-init c = past_here c.args.place c.args.tables.now

pub loop-at-preserved : goal.loop-at-preserved
loop-at-preserved c =
    past_more c.args.place c.loop-at.at c.args.tables.now c.index-tables-at.result
    c.loop-at.invariant (drop_here c.args.tables.now c.loop-at.at c.index-tables-at.result
    c.loop-at-test.true c.index-tables-at.is) (c.in_default.ensures)
