use Rattle.std.proofs.Common.{◌≡◌, refl}
use Rattle.std.proofs.lemmas.Option.{slice_get_read}
use Rattle.std.specs.Prelude.{slice_get, Some}
use Rattle.fleet_sums.proofs.Placing.{length-widths, lookup-placed, sums-placed}
use Rattle.fleet_sums.proofs.Placing.{replaced-placed}
use Rattle.fleet_sums.proofs.sums.Sums.replace_row.Goals as goal

pub replace_row-requires-clause-there : goal.replace_row-requires-clause-there
replace_row-requires-clause-there c =
    let found : slice_get c.self.inside.tables.items c.args.table ≡ Some c.index_mut.result.now =
    slice_get_read c.self.inside.tables.items _ c.args.table c.index_mut.result.now refl
    (rw (← c.self.view_is, length-widths) at c.requires.table_in) c.index_mut.ensures.value in
    let same = lookup-placed c.self.inside.tables.items c.args.table c.index_mut.result.now found
    c.args.key.now in
    rw same at (rw (← c.self.view_is) at c.requires.there)

pub replace_row-requires-clause-can : goal.replace_row-requires-clause-can
replace_row-requires-clause-can c =
    let found : slice_get c.self.inside.tables.items c.args.table ≡ Some c.index_mut.result.now =
    slice_get_read c.self.inside.tables.items _ c.args.table c.index_mut.result.now refl
    (rw (← c.self.view_is, length-widths) at c.requires.table_in) c.index_mut.ensures.value in
    let same = sums-placed c.self.inside.tables.items c.args.table c.index_mut.result.now found
    c.args.key.now in
    rw (← same) (rw (← c.self.view_is) at c.requires.can)

pub returns : goal.returns
returns c =
    let found : slice_get c.self.inside.tables.items c.args.table ≡ Some c.index_mut.result.now =
    slice_get_read c.self.inside.tables.items _ c.args.table c.index_mut.result.now refl
    (rw (← c.self.view_is, length-widths) at c.requires.table_in) c.index_mut.ensures.value in
    let same = sums-placed c.self.inside.tables.items c.args.table c.index_mut.result.now found
    c.args.key.now in
    rw (← c.self.view_is) (replaced-placed c.self.inside.tables.items c.args.table
    c.index_mut.result.now found c.args.key.now c.replace_row.new.self c.args.old.now.cells
    c.args.new.now.cells c.replace_row.ensures)
