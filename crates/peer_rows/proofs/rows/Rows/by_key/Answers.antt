use Rattle.std.proofs.Common.{◌≡◌, ◌∙◌, sym}
use Rattle.std.specs.Prelude.{slice_get, Some}
use Rattle.peer_rows.proofs.Placing.{found_at, by_key-placed}
use Rattle.peer_rows.proofs.rows.Rows.by_key.Goals as goal

pub returns-clause-value : goal.returns-clause-value
returns-clause-value c =
    let found : slice_get c.self.inside.tables.items c.args.table ≡ Some c.index.result.now =
    found_at c.self.inside.tables.items c.args.table c.index.result.now (rw (← c.self.view_is)
    at c.requires) c.index.ensures in
    rw (← c.self.view_is) (c.in_ok-rows.ensures
    ∙ sym (by_key-placed c.self.inside.tables.items c.args.table c.index.result.now found))
