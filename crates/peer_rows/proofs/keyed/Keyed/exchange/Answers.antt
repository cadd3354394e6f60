use Rattle.std.proofs.Common.{sym, ap}
use Rattle.std.specs.Prelude.{Option, is_some}
use Rattle.peer_rows.specs.declared.row.Row.{Row}
use Rattle.place_index.specs.Places.{in_order, item_at}
use Rattle.peer_rows.specs.Table.{EachPeerOnce}
use Rattle.place_index.proofs.Ordered.{sorted-in_order, some_item}
use Rattle.peer_rows.proofs.Shown.{no_peer-shown, peers-shown, exchanged-shown, once-shown}
use Rattle.peer_rows.proofs.keyed.Keyed.exchange.Goals as goal

pub exchange-requires : goal.exchange-requires
exchange-requires c = some_item (item_at c.self.inside.index.places c.in-Some.at)
    c.args.key.now c.in-Some.ensures.some

pub returns-clause-found : goal.returns-clause-found
returns-clause-found c = rw (
  ← c.self.view_is,
  peers-shown c.self.inside.index.places c.args.key.now c.in-Some.ensures.distinct c.in-Some.at
      c.in-Some.ensures.some c.exchange.ensures.rows c.exchange.ensures.changed.value
      c.args.peer,
) c.exchange.ensures.is

pub returns-clause-rows : goal.returns-clause-rows
returns-clause-rows c = rw (← c.self.view_is, c.exchange.ensures.changed.is)
    (exchanged-shown c.self.inside.index.places
    c.args.key.now c.in-Some.ensures.distinct c.in-Some.at c.in-Some.ensures.some
    c.exchange.ensures.rows c.exchange.ensures.changed.value c.exchange.ensures.later c.args.peer
    c.args.row.now c.exchange.result c.exchange.ensures.after)

pub returns-clause-row : goal.returns-clause-row
returns-clause-row c = rw (
  ← c.self.view_is,
  peers-shown c.self.inside.index.places c.args.key.now c.in-Some.ensures.distinct c.in-Some.at
      c.in-Some.ensures.some c.exchange.ensures.rows c.exchange.ensures.changed.value
      c.args.peer,
) c.exchange.ensures.came

pub returns-clause-once : goal.returns-clause-once
returns-clause-once c =
    let once : EachPeerOnce (in_order c.self.inside.index.places) =
    rw (← c.self.view_is) at c.requires in
    rw c.exchange.ensures.changed.is
    (once-shown c.self.inside.index.places c.args.key.now c.in-Some.ensures.distinct c.in-Some.at
    c.in-Some.ensures.some c.exchange.ensures.rows c.exchange.ensures.changed.value
    c.exchange.ensures.later once c.exchange.ensures.changed.are)

pub returns-clause-ordered : goal.returns-clause-ordered
returns-clause-ordered c =
    sorted-in_order c.exchange.new.self.places

pub returns-in_default-clause-found : goal.returns-in_default-clause-found
returns-in_default-clause-found c = rw (← c.self.view_is)
    (sym (ap (λ (o : Option Row). is_some o) (no_peer-shown c.self.inside.index.places
    c.args.key.now c.args.peer c.in_default.ensures.none)))

pub returns-in_default-clause-ordered : goal.returns-in_default-clause-ordered
returns-in_default-clause-ordered c =
    rw (← c.self.view_is) (sorted-in_order c.self.inside.index.places)
