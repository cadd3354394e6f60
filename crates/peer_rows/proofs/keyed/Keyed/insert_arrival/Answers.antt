use Rattle.std.proofs.Common.{◌∙◌, refl, sym, subst, Option, List, ℕ}
use Rattle.std.specs.Prelude.{IsSome}
use Rattle.place_index.specs.Places.{in_order, item_at}
use Rattle.peer_rows.specs.Table.{EachPeerOnce}
use Rattle.peer_rows.specs.declared.row.Row.{Row}
use Rattle.place_index.proofs.Ordered.{sorted-in_order, value_of_item}
use Rattle.peer_rows.proofs.Kept.{none_of_key, some_listed}
use Rattle.peer_rows.proofs.Shown.{none-shown, new-shown, new_once-shown, value-shown}
use Rattle.peer_rows.proofs.keyed.Keyed.insert_arrival.Goals as goal

pub returns-then-not-arrive-clause-ordered : goal.returns-then-not-arrive-clause-ordered
returns-then-not-arrive-clause-ordered c =
    rw (← c.self.view_is) (sorted-in_order c.self.inside.index.places)

pub returns-in_err-insert_new-clause-ordered : goal.returns-in_err-insert_new-clause-ordered
returns-in_err-insert_new-clause-ordered c = sorted-in_order c.insert_new.new.index.places

pub returns-in_default-clause-new : goal.returns-in_default-clause-new
returns-in_default-clause-new c = λ new. rw (← c.self.view_is)
    (none-shown c.self.inside.index.places c.args.key.now c.in_default.ensures.none)

pub returns-in_default-clause-came : goal.returns-in_default-clause-came
returns-in_default-clause-came c =
    let places = c.self.inside.index.places in
    rw (← c.self.view_is) (none_of_key (in_order places) c.args.key.now
    (none-shown places c.args.key.now c.in_default.ensures.none))

pub returns-in_default-clause-ok : goal.returns-in_default-clause-ok
returns-in_default-clause-ok c = rw (← c.self.view_is, ← c.if-not-arrive.ensures)
    (new-shown c.self.inside.index.places c.args.key.now c.args.peer c.arrive.new.self
    (in_order c.insert_new.new.index.places) c.in_default.ensures.none
    c.in_ok-insert_new.ensures.ok)

pub returns-in_default-clause-once : goal.returns-in_default-clause-once
returns-in_default-clause-once c =
    let once : EachPeerOnce (in_order c.self.inside.index.places) =
    rw (← c.self.view_is) at c.requires.peers in
    new_once-shown c.self.inside.index.places c.args.key.now c.args.peer c.arrive.new.self
    (in_order c.insert_new.new.index.places) once c.in_ok-insert_new.ensures.ok

pub returns-in_default-clause-ordered : goal.returns-in_default-clause-ordered
returns-in_default-clause-ordered c = sorted-in_order c.insert_new.new.index.places

pub returns-clause-ordered : goal.returns-clause-ordered
returns-clause-ordered c =
    rw (← c.self.view_is) (sorted-in_order c.self.inside.index.places)

pub returns-clause-came : goal.returns-clause-came
returns-clause-came c =
    let places = c.self.inside.index.places in
    let there = value_of_item (item_at places c.in-Some.at) c.args.key.now c.in-Some.ensures.some in
    let once : EachPeerOnce (in_order places) = rw (← c.self.view_is) at c.requires.peers in
    rw (← c.self.view_is) (some_listed (in_order places) c.args.key.now (sorted-in_order places)
    once (subst (λ (rows : Option (List (ℕ × Row))). IsSome rows)
    (sym (value-shown places c.args.key.now c.in-Some.ensures.distinct c.in-Some.at
    c.in-Some.ensures.some ∙ there.1)) refl))
