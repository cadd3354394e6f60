use Rattle.peer_rows.proofs.Kept.{kept-exchanged}
use Rattle.peer_rows.proofs.table.Table.exchange.Goals as goal

pub invariant_of-self : goal.invariant_of-self
invariant_of-self c = kept-exchanged c.self.inside.keys c.exchange.new.self
    c.self.inside.counts.items c.args.key.now c.args.peer c.self.invariant
    c.exchange.ensures.ordered c.exchange.ensures.once c.args.row.now c.exchange.new.row
    c.args.row.now c.exchange.result c.exchange.ensures.rows c.exchange.ensures.row
