use Rattle.std.proofs.Common.{◌≡◌}
use Rattle.std.specs.Prelude.{slice_get, Some}
use Rattle.peer_rows.specs.Arriving.{arrived_row}
use Rattle.peer_rows.proofs.Arrivals.{match_arrived}
use Rattle.peer_rows.proofs.Placing.{found_at, lookup-placed, put_found, map_found}
use Rattle.peer_rows.proofs.rows.Rows.arrive_at.Goals as goal

pub invariant_of-self : goal.invariant_of-self
invariant_of-self c =
    let found : slice_get c.self.inside.tables.items c.args.table ≡ Some c.index_mut.result.now =
    found_at c.self.inside.tables.items c.args.table c.index_mut.result.now
    (rw (← c.self.view_is) at c.requires.table_in) c.index_mut.ensures.value in
    put_found c.self.inside.tables.items c.args.table c.arrive.new.self c.index_mut.result.now found
    c.args.key.now c.args.peer (arrived_row c.args.arrival.now) c.self.inside.peers
    c.self.invariant c.arrive.result c.arrive.ensures.rows

pub returns-clause-held : goal.returns-clause-held
returns-clause-held c = λ done.
    let found : slice_get c.self.inside.tables.items c.args.table ≡ Some c.index_mut.result.now =
    found_at c.self.inside.tables.items c.args.table c.index_mut.result.now
    (rw (← c.self.view_is) at c.requires.table_in) c.index_mut.ensures.value in
    rw (
      ← c.self.view_is,
      lookup-placed c.self.inside.tables.items c.args.table
          c.index_mut.result.now found c.args.key.now c.args.peer,
    ) (c.arrive.ensures.held done)

pub returns-clause-rows : goal.returns-clause-rows
returns-clause-rows c =
    let found : slice_get c.self.inside.tables.items c.args.table ≡ Some c.index_mut.result.now =
    found_at c.self.inside.tables.items c.args.table c.index_mut.result.now
    (rw (← c.self.view_is) at c.requires.table_in) c.index_mut.ensures.value in
    rw (← c.self.view_is) (match_arrived _ _ _ c.arrive.result (map_found
    c.self.inside.tables.items c.args.table c.arrive.new.self c.index_mut.result.now found
    c.args.key.now c.args.peer (arrived_row c.args.arrival.now) c.self.inside.peers
    c.arrive.result c.arrive.ensures.rows))

pub returns-clause-ordered : goal.returns-clause-ordered
returns-clause-ordered c =
    let found : slice_get c.self.inside.tables.items c.args.table ≡ Some c.index_mut.result.now =
    found_at c.self.inside.tables.items c.args.table c.index_mut.result.now
    (rw (← c.self.view_is) at c.requires.table_in) c.index_mut.ensures.value in
    (put_found c.self.inside.tables.items c.args.table c.arrive.new.self c.index_mut.result.now
    found c.args.key.now c.args.peer (arrived_row c.args.arrival.now) c.self.inside.peers
    c.self.invariant c.arrive.result c.arrive.ensures.rows).ordered
