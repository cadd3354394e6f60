use Rattle.update_values.proofs.PlanLemmas.{planned_cells}
use Rattle.session_core.proofs.puts.pack_cells.Goals as goal

pub returns : goal.returns
returns c =
    rw (← planned_cells c.args.followed.now.layout c.args.cols.now
    c.args.values.now c.args.plan.now c.requires) c.pack.ensures
