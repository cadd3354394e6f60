use Rattle.update_values.proofs.PlanLemmas.{planned_cells}
use Rattle.session_core.proofs.puts.read_cells.Goals as goal

pub returns-clause-cells : goal.returns-clause-cells
returns-clause-cells c =
    rw (← planned_cells c.args.followed.now.layout c.args.cols.now
    c.args.values.now c.args.plan.now c.requires) c.read.ensures.cells
