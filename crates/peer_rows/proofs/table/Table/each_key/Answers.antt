use Rattle.peer_rows.proofs.Walk.{each_of_table}
use Rattle.peer_rows.proofs.table.Table.each_key.Goals as goal

pub returns : goal.returns
returns c = rw (← c.self.view_is) (each_of_table c.self.inside.keys c.each_key.result
    c.self.invariant.ordered c.self.invariant.once c.each_key.ensures)
