use Rattle.std.proofs.Common.{◌≡◌, ◌∙◌, sym, ap, ◌∷◌, [], true, false}
use Rattle.std.specs.Map.{keys_of}
use Rattle.place_index.specs.Places.{item_at, in_order}
use Rattle.peer_rows.specs.Table.{EachPeerOnce}
use Rattle.peer_rows.proofs.Keying.{take_not_held}
use Rattle.peer_rows.proofs.InTime.{PeerRows, rows_value}
use Rattle.place_index.proofs.Ordered.{value_of_item, sorted-in_order, some_item}
use Rattle.peer_rows.proofs.Shown.{none-shown, no_peer-shown, peers-shown, take-shown}
use Rattle.peer_rows.proofs.Shown.{once-shown, last-shown, gone_once-shown}
use Rattle.peer_rows.proofs.keyed.Keyed.take.Goals as goal

pub returns-in_err-at-clause-value : goal.returns-in_err-at-clause-value
returns-in_err-at-clause-value c = rw (c.from_residual.ensures, ← c.self.view_is)
    (sym (no_peer-shown c.self.inside.index.places c.args.key.now c.args.peer
    c.in_err-at.ensures.none))

pub returns-in_err-at-clause-after : goal.returns-in_err-at-clause-after
returns-in_err-at-clause-after c = rw (← c.self.view_is)
    (sym (take_not_held (in_order c.self.inside.index.places) c.args.key.now c.args.peer
    (none-shown c.self.inside.index.places c.args.key.now c.in_err-at.ensures.none)))

pub returns-in_err-at-clause-ordered : goal.returns-in_err-at-clause-ordered
returns-in_err-at-clause-ordered c =
    rw (← c.self.view_is) (sorted-in_order c.self.inside.index.places)

pub is_only-requires : goal.is_only-requires
is_only-requires c = some_item (item_at c.self.inside.index.places c.in_ok-at.at)
    c.args.key.now c.in_ok-at.ensures.some

pub taken-rows-requires : goal.taken-rows-requires
taken-rows-requires c = some_item (item_at c.self.inside.index.places c.in_ok-at.at)
    c.args.key.now c.in_ok-at.ensures.some

pub take-requires-clause-some : goal.take-requires-clause-some
take-requires-clause-some c = some_item (item_at c.self.inside.index.places c.in_ok-at.at)
    c.args.key.now c.in_ok-at.ensures.some

pub take-requires-clause-others : goal.take-requires-clause-others
take-requires-clause-others c = λ last.
    let there = value_of_item (item_at c.self.inside.index.places c.in_ok-at.at) c.args.key.now
    c.in_ok-at.ensures.some in
    let yes : c.is_only.result ≡ true =
    (rw there.1 at c.is_only.ensures).1
    (sym (ap (λ (rows : PeerRows). keys_of rows) (rows_value c.self.inside.index.places
    c.in_ok-at.at there.0 there.1)) ∙ last) in
    let wrong : true ≡ false = sym yes ∙ c.if-is_only.false in
    cc

pub returns-then-is_only-clause-value : goal.returns-then-is_only-clause-value
returns-then-is_only-clause-value c =
    rw (← c.self.view_is) (c.into_row.ensures
    ∙ sym (peers-shown c.self.inside.index.places c.args.key.now c.in_ok-at.ensures.distinct
    c.in_ok-at.at c.in_ok-at.ensures.some c.taken-rows.result c.taken-rows.ensures.value
    c.args.peer))

pub returns-then-is_only-clause-after : goal.returns-then-is_only-clause-after
returns-then-is_only-clause-after c =
    let only : keys_of c.taken-rows.result ≡ c.args.peer ∷ [] =
    (rw c.taken-rows.ensures.value at c.is_only.ensures).0 c.if-is_only.true in
    rw (← c.self.view_is, c.taken-rows.ensures.after)
    (last-shown c.self.inside.index.places c.args.key.now c.in_ok-at.ensures.distinct
    c.in_ok-at.at c.in_ok-at.ensures.some c.taken-rows.result c.taken-rows.ensures.value
    c.args.peer only)

pub returns-then-is_only-clause-ordered : goal.returns-then-is_only-clause-ordered
returns-then-is_only-clause-ordered c = sorted-in_order c.taken-rows.new.index.places

pub returns-then-is_only-clause-once : goal.returns-then-is_only-clause-once
returns-then-is_only-clause-once c =
    let once : EachPeerOnce (in_order c.self.inside.index.places) =
    rw (← c.self.view_is) at c.requires in
    rw c.taken-rows.ensures.after (gone_once-shown c.self.inside.index.places c.args.key.now
    c.in_ok-at.ensures.distinct c.in_ok-at.at c.in_ok-at.ensures.some c.taken-rows.result
    c.taken-rows.ensures.value once)

pub returns-else-is_only-clause-value : goal.returns-else-is_only-clause-value
returns-else-is_only-clause-value c = rw (← c.self.view_is) (c.take.ensures.is
    ∙ sym (peers-shown c.self.inside.index.places c.args.key.now c.in_ok-at.ensures.distinct
    c.in_ok-at.at c.in_ok-at.ensures.some c.take.ensures.rows
    c.take.ensures.changed.value c.args.peer))

pub returns-else-is_only-clause-after : goal.returns-else-is_only-clause-after
returns-else-is_only-clause-after c = rw (← c.self.view_is, c.take.ensures.changed.is)
    (take-shown c.self.inside.index.places c.args.key.now c.in_ok-at.ensures.distinct
    c.in_ok-at.at c.in_ok-at.ensures.some c.take.ensures.rows
    c.take.ensures.changed.value c.take.ensures.later c.args.peer c.take.ensures.after)

pub returns-else-is_only-clause-ordered : goal.returns-else-is_only-clause-ordered
returns-else-is_only-clause-ordered c =
    sorted-in_order c.take.new.self.places

pub returns-else-is_only-clause-once : goal.returns-else-is_only-clause-once
returns-else-is_only-clause-once c =
    let once : EachPeerOnce (in_order c.self.inside.index.places) =
    rw (← c.self.view_is) at c.requires in
    rw c.take.ensures.changed.is (once-shown c.self.inside.index.places c.args.key.now
    c.in_ok-at.ensures.distinct
    c.in_ok-at.at c.in_ok-at.ensures.some c.take.ensures.rows
    c.take.ensures.changed.value c.take.ensures.later once c.take.ensures.changed.are)
