use Rattle.std.proofs.Common.{◌≡◌, ap}
use Rattle.std.specs.Prelude.{slice_get, Some}
use Rattle.peer_rows.specs.Table.{TableRows}
use Rattle.peer_rows.proofs.Placing.{found_at, length-set, placed-emptied, same_map}
use Rattle.peer_rows.proofs.Placing.{tables-emptied}
use Rattle.peer_rows.proofs.rows.Rows.clear_table.Goals as goal

pub invariant_of-self : goal.invariant_of-self
invariant_of-self c =
    let found : slice_get c.self.inside.tables.items c.args.table ≡ Some c.index_mut.result.now =
    found_at c.self.inside.tables.items c.args.table c.index_mut.result.now
    (rw (← c.self.view_is) at c.requires) c.index_mut.ensures.value in
    tables-emptied c.self.inside.peers c.self.inside.tables.items c.args.table c.clear.new.self
    c.index_mut.result.now c.self.invariant found
    (ap (λ (t : TableRows). t.peers) c.clear.ensures)
    (ap (λ (t : TableRows). t.entries) c.clear.ensures)

pub returns-clause-after : goal.returns-clause-after
returns-clause-after c =
    let found : slice_get c.self.inside.tables.items c.args.table ≡ Some c.index_mut.result.now =
    found_at c.self.inside.tables.items c.args.table c.index_mut.result.now
    (rw (← c.self.view_is) at c.requires) c.index_mut.ensures.value in
    rw (← c.self.view_is) (same_map c.self.inside.peers _ _ _ _
    (length-set c.self.inside.tables.items c.args.table c.clear.new.self)
    (placed-emptied c.self.inside.tables.items c.args.table c.index_mut.result.now found
    c.clear.new.self
    (ap (λ (t : TableRows). t.entries) c.clear.ensures)))

pub returns-clause-ordered : goal.returns-clause-ordered
returns-clause-ordered c =
    let found : slice_get c.self.inside.tables.items c.args.table ≡ Some c.index_mut.result.now =
    found_at c.self.inside.tables.items c.args.table c.index_mut.result.now
    (rw (← c.self.view_is) at c.requires) c.index_mut.ensures.value in
    (tables-emptied c.self.inside.peers c.self.inside.tables.items c.args.table c.clear.new.self
    c.index_mut.result.now c.self.invariant found
    (ap (λ (t : TableRows). t.peers) c.clear.ensures)
    (ap (λ (t : TableRows). t.entries) c.clear.ensures)).ordered
