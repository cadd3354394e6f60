use Rattle.std.proofs.Common.{length, ◌<◌, refl, arith}
use Rattle.peer_rows.specs.Arriving.{arrived_row}
use Rattle.peer_rows.proofs.Kept.{first_fits, kept-first}
use Rattle.peer_rows.proofs.table.Table.insert_arrival.Goals as goal

pub overflow_add-index_mut : goal.overflow_add-index_mut
overflow_add-index_mut c =
    let in_range : c.args.peer < length c.self.inside.counts.items =
    rw (← c.self.view_is) at c.requires.peer_in in
    let fits = first_fits c.self.inside.keys c.insert_arrival.new.self c.self.inside.counts.items
    c.args.key.now c.args.peer c.index_mut.result.now (arrived_row c.args.arrival.now)
    c.self.invariant c.in_ok-arrived.ensures.once (rw c.in-New.is at c.in_ok-arrived.ensures.ok)
    ((rw c.in-New.is at c.in_ok-arrived.ensures.new) refl) in_range c.index_mut.ensures.value
    c.len-keys.result c.len-keys.ensures.value c.len-keys.ensures.small in
    omega (arith, fits)

pub invariant_of-self-in-New : goal.invariant_of-self-in-New
invariant_of-self-in-New c =
    let in_range : c.args.peer < length c.self.inside.counts.items =
    rw (← c.self.view_is) at c.requires.peer_in in
    kept-first c.self.inside.keys c.insert_arrival.new.self c.self.inside.counts.items
    c.args.key.now c.args.peer c.index_mut.result.now (arrived_row c.args.arrival.now)
    c.self.invariant c.in_ok-arrived.ensures.once (rw c.in-New.is at c.in_ok-arrived.ensures.ok)
    ((rw c.in-New.is at c.in_ok-arrived.ensures.new) refl) in_range c.index_mut.ensures.value
    c.in_ok-arrived.ensures.ordered
