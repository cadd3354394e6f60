use Rattle.std.proofs.Common.{◌≡◌}
use Rattle.std.specs.Prelude.{slice_get, Some}
use Rattle.peer_rows.proofs.Placing.{found_at, lookup-placed, put_found, map_found}
use Rattle.peer_rows.proofs.rows.Rows.exchange_at.Goals as goal

pub invariant_of-self : goal.invariant_of-self
invariant_of-self c =
    let found : slice_get c.self.inside.tables.items c.args.table ≡ Some c.index_mut.result.now =
    found_at c.self.inside.tables.items c.args.table c.index_mut.result.now
    (rw (← c.self.view_is) at c.requires.table_in) c.index_mut.ensures.value in
    put_found c.self.inside.tables.items c.args.table
    c.exchange.new.self c.index_mut.result.now found c.args.key.now c.args.peer c.args.row.now
    c.self.inside.peers c.self.invariant c.exchange.result c.exchange.ensures.rows

pub returns-clause-found : goal.returns-clause-found
returns-clause-found c =
    let found : slice_get c.self.inside.tables.items c.args.table ≡ Some c.index_mut.result.now =
    found_at c.self.inside.tables.items c.args.table c.index_mut.result.now
    (rw (← c.self.view_is) at c.requires.table_in) c.index_mut.ensures.value in
    rw (
      ← c.self.view_is,
      lookup-placed c.self.inside.tables.items c.args.table
          c.index_mut.result.now found c.args.key.now c.args.peer,
    ) c.exchange.ensures.found

pub returns-clause-rows : goal.returns-clause-rows
returns-clause-rows c =
    let found : slice_get c.self.inside.tables.items c.args.table ≡ Some c.index_mut.result.now =
    found_at c.self.inside.tables.items c.args.table c.index_mut.result.now
    (rw (← c.self.view_is) at c.requires.table_in) c.index_mut.ensures.value in
    rw (← c.self.view_is) (map_found c.self.inside.tables.items c.args.table
    c.exchange.new.self c.index_mut.result.now found c.args.key.now c.args.peer c.args.row.now
    c.self.inside.peers c.exchange.result c.exchange.ensures.rows)

pub returns-clause-row : goal.returns-clause-row
returns-clause-row c =
    let found : slice_get c.self.inside.tables.items c.args.table ≡ Some c.index_mut.result.now =
    found_at c.self.inside.tables.items c.args.table c.index_mut.result.now
    (rw (← c.self.view_is) at c.requires.table_in) c.index_mut.ensures.value in
    rw (
      ← c.self.view_is,
      lookup-placed c.self.inside.tables.items c.args.table
          c.index_mut.result.now found c.args.key.now c.args.peer,
    ) c.exchange.ensures.row

pub returns-clause-ordered : goal.returns-clause-ordered
returns-clause-ordered c =
    let found : slice_get c.self.inside.tables.items c.args.table ≡ Some c.index_mut.result.now =
    found_at c.self.inside.tables.items c.args.table c.index_mut.result.now
    (rw (← c.self.view_is) at c.requires.table_in) c.index_mut.ensures.value in
    (put_found c.self.inside.tables.items c.args.table
    c.exchange.new.self c.index_mut.result.now found c.args.key.now c.args.peer c.args.row.now
    c.self.inside.peers c.self.invariant c.exchange.result c.exchange.ensures.rows).ordered
