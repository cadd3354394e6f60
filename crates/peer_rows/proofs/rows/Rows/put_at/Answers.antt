use Rattle.std.proofs.Common.{◌≡◌}
use Rattle.std.specs.Prelude.{slice_get, Some}
use Rattle.peer_rows.proofs.Placing.{found_at, lookup-placed, tables-put_result, map-put_ok}
use Rattle.peer_rows.proofs.rows.Rows.put_at.Goals as goal

pub invariant_of-self : goal.invariant_of-self
invariant_of-self c =
    let found : slice_get c.self.inside.tables.items c.args.table ≡ Some c.index_mut.result.now =
    found_at c.self.inside.tables.items c.args.table c.index_mut.result.now
    (rw (← c.self.view_is) at c.requires.table_in) c.index_mut.ensures.value in
    tables-put_result c.self.inside.peers c.self.inside.tables.items c.self.invariant c.args.table
    c.put.new.self c.index_mut.result.now found c.args.key.now c.args.peer c.args.row
    c.put.result c.put.ensures.ok c.put.ensures.err

pub returns-clause-ok : goal.returns-clause-ok
returns-clause-ok c =
    let found : slice_get c.self.inside.tables.items c.args.table ≡ Some c.index_mut.result.now =
    found_at c.self.inside.tables.items c.args.table c.index_mut.result.now
    (rw (← c.self.view_is) at c.requires.table_in) c.index_mut.ensures.value in
    rw (← c.self.view_is) (map-put_ok c.self.inside.peers c.self.inside.tables.items c.args.table
    c.put.new.self c.index_mut.result.now found c.args.key.now c.args.peer c.args.row
    c.put.result c.put.ensures.ok c.put.ensures.err)

pub returns-clause-old : goal.returns-clause-old
returns-clause-old c =
    let found : slice_get c.self.inside.tables.items c.args.table ≡ Some c.index_mut.result.now =
    found_at c.self.inside.tables.items c.args.table c.index_mut.result.now
    (rw (← c.self.view_is) at c.requires.table_in) c.index_mut.ensures.value in
    rw (
      ← c.self.view_is,
      lookup-placed c.self.inside.tables.items c.args.table
          c.index_mut.result.now found c.args.key.now c.args.peer,
    ) c.put.ensures.old

pub returns-clause-held : goal.returns-clause-held
returns-clause-held c =
    let found : slice_get c.self.inside.tables.items c.args.table ≡ Some c.index_mut.result.now =
    found_at c.self.inside.tables.items c.args.table c.index_mut.result.now
    (rw (← c.self.view_is) at c.requires.table_in) c.index_mut.ensures.value in
    rw (
      ← c.self.view_is,
      lookup-placed c.self.inside.tables.items c.args.table
          c.index_mut.result.now found c.args.key.now c.args.peer,
    ) c.put.ensures.held

pub returns-clause-ordered : goal.returns-clause-ordered
returns-clause-ordered c =
    let found : slice_get c.self.inside.tables.items c.args.table ≡ Some c.index_mut.result.now =
    found_at c.self.inside.tables.items c.args.table c.index_mut.result.now
    (rw (← c.self.view_is) at c.requires.table_in) c.index_mut.ensures.value in
    (tables-put_result c.self.inside.peers c.self.inside.tables.items c.self.invariant c.args.table
    c.put.new.self c.index_mut.result.now found c.args.key.now c.args.peer c.args.row
    c.put.result c.put.ensures.ok c.put.ensures.err).ordered
