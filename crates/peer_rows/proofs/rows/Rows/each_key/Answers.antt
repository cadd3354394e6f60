use Rattle.std.proofs.Common.{◌≡◌}
use Rattle.std.specs.Prelude.{slice_get, Some}
use Rattle.peer_rows.proofs.Placing.{found_at, of_key-placed}
use Rattle.peer_rows.proofs.Walk.{each_alike}
use Rattle.peer_rows.proofs.rows.Rows.each_key.Goals as goal

pub returns-clause-value : goal.returns-clause-value
returns-clause-value c =
    let found : slice_get c.self.inside.tables.items c.args.table ≡ Some c.index.result.now =
    found_at c.self.inside.tables.items c.args.table c.index.result.now (rw (← c.self.view_is)
    at c.requires) c.index.ensures in
    rw (← c.self.view_is) (each_alike _ _ c.each_key.result
    (of_key-placed c.self.inside.tables.items c.args.table c.index.result.now found)
    c.each_key.ensures)
