use Rattle.peer_rows.specs.Arriving.{arrived_row}
use Rattle.peer_rows.proofs.Arrivals.{kept-arrived}
use Rattle.peer_rows.proofs.table.Table.arrive.Goals as goal

pub invariant_of-self : goal.invariant_of-self
invariant_of-self c = kept-arrived c.self.inside.keys c.arrive.new.self
    c.self.inside.counts.items c.args.key.now c.args.peer c.self.invariant
    c.arrive.ensures.ordered c.arrive.ensures.once (arrived_row c.args.arrival.now)
    c.arrive.result c.arrive.ensures.held c.arrive.ensures.rows
