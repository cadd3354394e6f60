use Rattle.std.proofs.Common.{◌≡◌, refl}
use Rattle.std.proofs.lemmas.Option.{slice_get_read}
use Rattle.std.specs.Prelude.{slice_get, Some}
use Rattle.fleet_sums.proofs.Placing.{length-widths, lookup-placed, sums-placed}
use Rattle.fleet_sums.proofs.Placing.{added-placed}
use Rattle.fleet_sums.proofs.sums.Sums.add_row.Goals as goal

pub add-requires-clause-few : goal.add-requires-clause-few
add-requires-clause-few c =
    let found : slice_get c.self.inside.tables.items c.args.table ≡ Some c.index_mut.result.now =
    slice_get_read c.self.inside.tables.items _ c.args.table c.index_mut.result.now refl
    (rw (← c.self.view_is, length-widths) at c.requires.table_in) c.index_mut.ensures.value in
    let same = sums-placed c.self.inside.tables.items c.args.table c.index_mut.result.now found
    c.args.key.now in
    rw (← same) (rw (← c.self.view_is) at c.requires.few)

pub returns-clause-ok : goal.returns-clause-ok
returns-clause-ok c =
    let found : slice_get c.self.inside.tables.items c.args.table ≡ Some c.index_mut.result.now =
    slice_get_read c.self.inside.tables.items _ c.args.table c.index_mut.result.now refl
    (rw (← c.self.view_is, length-widths) at c.requires.table_in) c.index_mut.ensures.value in
    let same = sums-placed c.self.inside.tables.items c.args.table c.index_mut.result.now found
    c.args.key.now in
    rw (← c.self.view_is) (added-placed c.self.inside.tables.items c.args.table
    c.index_mut.result.now found c.args.key.now c.add.new.self c.args.row.now.cells c.add.result
    c.add.ensures.ok)

pub returns-clause-held : goal.returns-clause-held
returns-clause-held c =
    let found : slice_get c.self.inside.tables.items c.args.table ≡ Some c.index_mut.result.now =
    slice_get_read c.self.inside.tables.items _ c.args.table c.index_mut.result.now refl
    (rw (← c.self.view_is, length-widths) at c.requires.table_in) c.index_mut.ensures.value in
    rw (
      ← c.self.view_is,
      lookup-placed c.self.inside.tables.items c.args.table
          c.index_mut.result.now found c.args.key.now,
    ) c.add.ensures.held
