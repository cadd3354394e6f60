use Rattle.std.proofs.Common.{◌≡◌, ◌∙◌, sym, ap, length}
use Rattle.std.specs.Prelude.{slice_get, Some}
use Rattle.std.specs.List.{dedup}
use Rattle.peer_rows.specs.Table.{same_key}
use Rattle.peer_rows.proofs.Placing.{found_at, used-placed}
use Rattle.peer_rows.proofs.rows.Rows.used.Goals as goal

pub returns : goal.returns
returns c =
    let found : slice_get c.self.inside.tables.items c.args.table ≡ Some c.index.result.now =
    found_at c.self.inside.tables.items c.args.table c.index.result.now (rw (← c.self.view_is)
    at c.requires) c.index.ensures in
    rw (← c.self.view_is) (c.used.ensures
    ∙ sym (ap (λ ks. length (dedup same_key ks))
    (used-placed c.self.inside.tables.items c.args.table c.index.result.now found)))
