use Rattle.std.proofs.Common.{◌<◌, length, rules}
use Rattle.peer_rows.proofs.Kept.{counted_in_range}
use Rattle.peer_rows.proofs.table.count_down.Goals as goal

pub bounds-counts-peer : goal.bounds-counts-peer
bounds-counts-peer c = counted_in_range c.loop-peer.counts c.in-Some.peer c.in-Some.field-0-1.now
    c.next.new.self c.loop-peer.peer-iterator c.in-Some.ensures.steps
    (λ p. (c.loop-peer.invariant p).1)

pub offset_bounds-counts-peer : goal.offset_bounds-counts-peer
offset_bounds-counts-peer c =
    let in_range : c.in-Some.peer < length c.loop-peer.counts =
    counted_in_range c.loop-peer.counts c.in-Some.peer c.in-Some.field-0-1.now c.next.new.self
    c.loop-peer.peer-iterator c.in-Some.ensures.steps (λ p. (c.loop-peer.invariant p).1) in
    search (rules, in_range)
