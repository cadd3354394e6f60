use Rattle.update_values.proofs.PlanLemmas.{planned_cells}
use Rattle.session_core.proofs.puts.read_planned.Goals as goal

pub returns-in-Some-clause-cells : goal.returns-in-Some-clause-cells
returns-in-Some-clause-cells c =
    let plan = rw c.in-Some.is at c.requires in
    rw (← planned_cells c.args.followed.now.layout c.args.cols.now
    c.args.values.now c.in-Some.plan plan) c.read.ensures.cells

pub returns-clause-cells : goal.returns-clause-cells
returns-clause-cells c =
    rw (← planned_cells c.args.followed.now.layout c.args.cols.now
    c.args.values.now c.in_ok-made.made c.in_ok-made.ensures) c.read-whole.ensures.cells
