use Rattle.std.proofs.Common.{sym, ap}
use Rattle.place_index.specs.Places.{in_order, item_at}
use Rattle.peer_rows.specs.Table.{EachPeerOnce}
use Rattle.place_index.proofs.Ordered.{sorted-in_order, some_item}
use Rattle.peer_rows.proofs.Shown.{no_peer-shown, new-shown, new_once-shown, same_once, on_err}
use Rattle.peer_rows.proofs.Shown.{peers-shown, put-shown, refused-shown, once-shown}
use Rattle.peer_rows.proofs.keyed.Keyed.put.Goals as goal

pub put-requires : goal.put-requires
put-requires c = some_item (item_at c.self.inside.index.places c.in-Some.at)
    c.args.key.now c.in-Some.ensures.some

pub returns-clause-ok : goal.returns-clause-ok
returns-clause-ok c = rw (← c.self.view_is, c.put.ensures.changed.is)
    (put-shown c.self.inside.index.places
    c.args.key.now c.in-Some.ensures.distinct c.in-Some.at c.in-Some.ensures.some
    c.put.ensures.rows c.put.ensures.changed.value c.put.ensures.later c.args.peer
    c.args.row c.put.result c.put.ensures.ok)

pub returns-clause-old : goal.returns-clause-old
returns-clause-old c = rw (
  ← c.self.view_is,
  peers-shown c.self.inside.index.places c.args.key.now c.in-Some.ensures.distinct c.in-Some.at
      c.in-Some.ensures.some c.put.ensures.rows c.put.ensures.changed.value
      c.args.peer,
) c.put.ensures.before

pub returns-clause-held : goal.returns-clause-held
returns-clause-held c = rw (
  ← c.self.view_is,
  peers-shown c.self.inside.index.places c.args.key.now c.in-Some.ensures.distinct c.in-Some.at
      c.in-Some.ensures.some c.put.ensures.rows c.put.ensures.changed.value
      c.args.peer,
) c.put.ensures.held

pub returns-clause-err : goal.returns-clause-err
returns-clause-err c = rw (← c.self.view_is, c.put.ensures.changed.is)
    (refused-shown c.self.inside.index.places
    c.args.key.now c.in-Some.ensures.distinct c.in-Some.at c.in-Some.ensures.some
    c.put.ensures.rows c.put.ensures.changed.value c.put.ensures.later c.put.result
    c.put.ensures.err)

pub returns-clause-once : goal.returns-clause-once
returns-clause-once c =
    let once : EachPeerOnce (in_order c.self.inside.index.places) =
    rw (← c.self.view_is) at c.requires in
    rw c.put.ensures.changed.is (once-shown c.self.inside.index.places c.args.key.now
    c.in-Some.ensures.distinct c.in-Some.at
    c.in-Some.ensures.some c.put.ensures.rows c.put.ensures.changed.value
    c.put.ensures.later once c.put.ensures.changed.are)

pub returns-clause-ordered : goal.returns-clause-ordered
returns-clause-ordered c =
    sorted-in_order c.put.new.self.places

pub returns-in_err-insert_new-clause-held : goal.returns-in_err-insert_new-clause-held
returns-in_err-insert_new-clause-held c =
    let none = no_peer-shown c.self.inside.index.places c.args.key.now c.args.peer
    c.in_default.ensures.none in
    rw (← c.self.view_is) (λ held. let nothing = rw none at held in cc)

pub returns-in_err-insert_new-clause-err : goal.returns-in_err-insert_new-clause-err
returns-in_err-insert_new-clause-err c =
    rw (← c.self.view_is) (on_err c.from_residual.result
    (ap in_order c.in_err-insert_new.ensures.err))

pub returns-in_err-insert_new-clause-once : goal.returns-in_err-insert_new-clause-once
returns-in_err-insert_new-clause-once c =
    let once : EachPeerOnce (in_order c.self.inside.index.places) =
    rw (← c.self.view_is) at c.requires in
    same_once c.self.inside.index.places c.insert_new.new.index.places
    c.in_err-insert_new.ensures.err once

pub returns-in_err-insert_new-clause-ordered : goal.returns-in_err-insert_new-clause-ordered
returns-in_err-insert_new-clause-ordered c = sorted-in_order c.insert_new.new.index.places

pub returns-in_default-clause-ok : goal.returns-in_default-clause-ok
returns-in_default-clause-ok c = rw (← c.self.view_is)
    (new-shown c.self.inside.index.places c.args.key.now c.args.peer c.args.row
    (in_order c.insert_new.new.index.places) c.in_default.ensures.none
    c.in_ok-insert_new.ensures.ok)

pub returns-in_default-clause-old : goal.returns-in_default-clause-old
returns-in_default-clause-old c = rw (← c.self.view_is)
    (sym (no_peer-shown c.self.inside.index.places c.args.key.now c.args.peer
    c.in_default.ensures.none))

pub returns-in_default-clause-once : goal.returns-in_default-clause-once
returns-in_default-clause-once c =
    let once : EachPeerOnce (in_order c.self.inside.index.places) =
    rw (← c.self.view_is) at c.requires in
    new_once-shown c.self.inside.index.places c.args.key.now c.args.peer c.args.row
    (in_order c.insert_new.new.index.places) once c.in_ok-insert_new.ensures.ok

pub returns-in_default-clause-ordered : goal.returns-in_default-clause-ordered
returns-in_default-clause-ordered c = sorted-in_order c.insert_new.new.index.places
