use Rattle.peer_rows.proofs.InTime.{exchanged_planned}
use Rattle.peer_rows.proofs.index.Index.exchange.Goals as goal

pub invariant_of-self : goal.invariant_of-self
invariant_of-self c =
    exchanged_planned c.self.inside.keys.places c.args.at c.value_mut-rows.result.now
    c.exchange-found.new.self c.args.peer c.args.row.now c.exchange-found.new.row
    c.exchange-found.result c.self.inside.ends c.self.invariant c.value_mut-rows.ensures.value
    c.exchange-found.ensures.rows c.exchange-found.ensures.row
    (rw (← c.end.ensures, ← c.end-end.ensures) (c.ends_by.ensures c.if-ends_by.true))
