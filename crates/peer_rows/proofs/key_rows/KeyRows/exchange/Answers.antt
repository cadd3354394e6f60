use Rattle.peer_rows.specs.Peers.{ArePeers, held_by}
use Rattle.peer_rows.proofs.Peers.{are-exchanged}
use Rattle.peer_rows.proofs.key_rows.KeyRows.exchange.Goals as goal

pub invariant_of-self-in_default : goal.invariant_of-self-in_default
invariant_of-self-in_default c =
    let are : ArePeers (held_by c.self.inside.peers) = c.self.invariant.0 in (
      are-exchanged c.args.peer (held_by c.self.inside.peers)
          (held_by c.exchange_among.new.peers) c.args.row.now c.exchange_among.result are
          c.exchange_among.ensures.rows,
      c.exchange_among.ensures.summed,
    )

pub returns-in_default : goal.returns-in_default
returns-in_default c = rw (← c.self.view_is) (record {
  found = c.exchange_among.ensures.found;
  rows = c.exchange_among.ensures.rows;
  row = c.exchange_among.ensures.row;
  are = (invariant_of-self-in_default c).0;
})
