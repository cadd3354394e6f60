use Rattle.peer_rows.specs.Arriving.{arrived_row}
use Rattle.peer_rows.specs.Peers.{ArePeers, held_by}
use Rattle.peer_rows.proofs.Arrivals.{are-arrived}
use Rattle.peer_rows.proofs.key_rows.KeyRows.arrive.Goals as goal

pub invariant_of-self-in_default : goal.invariant_of-self-in_default
invariant_of-self-in_default c =
    let are : ArePeers (held_by c.self.inside.peers) = c.self.invariant.0 in (
      are-arrived c.args.peer (held_by c.self.inside.peers) (held_by c.arrive_among.new.peers)
          (arrived_row c.args.arrival.now) c.arrive_among.result are
          c.arrive_among.ensures.rows,
      c.arrive_among.ensures.summed,
    )

pub returns-in_default : goal.returns-in_default
returns-in_default c = rw (← c.self.view_is) (record {
  rows = c.arrive_among.ensures.rows;
  end = c.arrive_among.ensures.end;
  are = (invariant_of-self-in_default c).0;
})
