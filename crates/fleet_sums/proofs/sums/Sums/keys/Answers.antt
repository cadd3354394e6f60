use Rattle.std.proofs.Common.{◌≡◌, refl, ◌∙◌, sym, []}
use Rattle.std.proofs.lemmas.Option.{slice_get_read}
use Rattle.std.specs.Prelude.{slice_get, Some}
use Rattle.fleet_sums.proofs.Placing.{length-widths, keys-placed}
use Rattle.fleet_sums.proofs.sums.Sums.keys.Goals as goal

pub returns : goal.returns
returns c =
    let found : slice_get c.self.inside.tables.items c.args.table ≡ Some c.index.result.now =
    slice_get_read c.self.inside.tables.items _ c.args.table c.index.result.now refl
    (rw (← c.self.view_is, length-widths) at c.requires) c.index.ensures in
    rw (← c.self.view_is) (c.keys.ensures
    ∙ sym (keys-placed c.self.inside.tables.items c.args.table c.index.result.now found []))
