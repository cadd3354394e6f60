use Rattle.peer_rows.specs.Arriving.{arrived_row}
use Rattle.place_index.specs.Places.{in_order, item_at}
use Rattle.peer_rows.specs.Table.{EachPeerOnce}
use Rattle.place_index.proofs.Ordered.{sorted-in_order, some_item}
use Rattle.peer_rows.proofs.Shown.{peers-shown, exchanged-shown, once-shown}
use Rattle.peer_rows.proofs.keyed.Keyed.arrive.Goals as goal

pub arrive-requires-clause-some : goal.arrive-requires-clause-some
arrive-requires-clause-some c = some_item (item_at c.self.inside.index.places c.in-Some.at)
    c.args.key.now c.in-Some.ensures.some

pub returns-clause-held : goal.returns-clause-held
returns-clause-held c = rw (
  ← c.self.view_is,
  peers-shown c.self.inside.index.places c.args.key.now c.in-Some.ensures.distinct c.in-Some.at
      c.in-Some.ensures.some c.arrive.ensures.rows c.arrive.ensures.changed.value
      c.args.peer,
) c.arrive.ensures.held

pub returns-clause-rows : goal.returns-clause-rows
returns-clause-rows c = rw (← c.self.view_is, c.arrive.ensures.changed.is)
    (exchanged-shown c.self.inside.index.places
    c.args.key.now c.in-Some.ensures.distinct c.in-Some.at c.in-Some.ensures.some
    c.arrive.ensures.rows c.arrive.ensures.changed.value c.arrive.ensures.later c.args.peer
    (arrived_row c.args.arrival.now) c.arrive.result c.arrive.ensures.after)

pub returns-clause-once : goal.returns-clause-once
returns-clause-once c =
    let once : EachPeerOnce (in_order c.self.inside.index.places) =
    rw (← c.self.view_is) at c.requires.peers in
    rw c.arrive.ensures.changed.is
    (once-shown c.self.inside.index.places c.args.key.now c.in-Some.ensures.distinct c.in-Some.at
    c.in-Some.ensures.some c.arrive.ensures.rows c.arrive.ensures.changed.value
    c.arrive.ensures.later once c.arrive.ensures.changed.are)

pub returns-clause-ordered : goal.returns-clause-ordered
returns-clause-ordered c = sorted-in_order c.arrive.new.self.places

pub returns-in_default-clause-ordered : goal.returns-in_default-clause-ordered
returns-in_default-clause-ordered c =
    rw (← c.self.view_is) (sorted-in_order c.self.inside.index.places)
