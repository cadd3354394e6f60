use Rattle.std.proofs.Common.{◌≡◌}
use Rattle.std.specs.Prelude.{ℕ, filter, slice_get, Some}
use Rattle.peer_rows.specs.Arriving.{arrived_row, is_new}
use Rattle.peer_rows.specs.Table.{Spot, same_key}
use Rattle.peer_rows.specs.declared.row.Row.{Row}
use Rattle.peer_rows.proofs.Arrivals.{came_then}
use Rattle.peer_rows.proofs.Placing.{found_at, of_key-placed, told_result, told_map}
use Rattle.peer_rows.proofs.rows.Rows.insert_arrival.Goals as goal

pub invariant_of-self : goal.invariant_of-self
invariant_of-self c =
    let found : slice_get c.self.inside.tables.items c.args.table ≡ Some c.index_mut.result.now =
    found_at c.self.inside.tables.items c.args.table c.index_mut.result.now
    (rw (← c.self.view_is) at c.requires.table_in) c.index_mut.ensures.value in
    told_result c.self.inside.tables.items c.args.table c.insert_arrival.new.self
    c.index_mut.result.now found c.args.key.now c.args.peer (arrived_row c.args.arrival.now)
    is_new c.self.inside.peers c.self.invariant c.insert_arrival.result
    c.insert_arrival.ensures.ok c.insert_arrival.ensures.err

pub returns-clause-came : goal.returns-clause-came
returns-clause-came c =
    let found : slice_get c.self.inside.tables.items c.args.table ≡ Some c.index_mut.result.now =
    found_at c.self.inside.tables.items c.args.table c.index_mut.result.now
    (rw (← c.self.view_is) at c.requires.table_in) c.index_mut.ensures.value in
    rw (← c.self.view_is) (came_then {B = ℕ × Row} (λ (e : Spot × Row). (e.0.1, e.1))
    (filter (λ (e : Spot × Row). same_key c.args.key.now e.0.0) c.index_mut.result.now.entries) _
    (of_key-placed c.self.inside.tables.items c.args.table c.index_mut.result.now found
    c.args.key.now) c.insert_arrival.result c.insert_arrival.ensures.came)

pub returns-clause-ok : goal.returns-clause-ok
returns-clause-ok c =
    let found : slice_get c.self.inside.tables.items c.args.table ≡ Some c.index_mut.result.now =
    found_at c.self.inside.tables.items c.args.table c.index_mut.result.now
    (rw (← c.self.view_is) at c.requires.table_in) c.index_mut.ensures.value in
    rw (← c.self.view_is) (told_map c.self.inside.tables.items c.args.table
    c.insert_arrival.new.self c.index_mut.result.now found c.args.key.now c.args.peer
    (arrived_row c.args.arrival.now) is_new c.self.inside.peers c.insert_arrival.result
    c.insert_arrival.ensures.ok)

pub returns-clause-ordered : goal.returns-clause-ordered
returns-clause-ordered c =
    let found : slice_get c.self.inside.tables.items c.args.table ≡ Some c.index_mut.result.now =
    found_at c.self.inside.tables.items c.args.table c.index_mut.result.now
    (rw (← c.self.view_is) at c.requires.table_in) c.index_mut.ensures.value in
    (told_result c.self.inside.tables.items c.args.table c.insert_arrival.new.self
    c.index_mut.result.now found c.args.key.now c.args.peer (arrived_row c.args.arrival.now)
    is_new c.self.inside.peers c.self.invariant c.insert_arrival.result
    c.insert_arrival.ensures.ok c.insert_arrival.ensures.err).ordered
