use Rattle.std.proofs.Common.{◌≡◌, ◌∙◌, sym, ap}
use Rattle.std.specs.Prelude.{slice_get, Some}
use Rattle.peer_rows.specs.Table.{TableRows}
use Rattle.peer_rows.proofs.Placing.{found_at, lookup-placed, placed-take, tables-take, same_map}
use Rattle.peer_rows.proofs.Placing.{length-set}
use Rattle.peer_rows.proofs.rows.Rows.take_at.Goals as goal

pub invariant_of-self : goal.invariant_of-self
invariant_of-self c =
    let found : slice_get c.self.inside.tables.items c.args.table ≡ Some c.index_mut.result.now =
    found_at c.self.inside.tables.items c.args.table c.index_mut.result.now
    (rw (← c.self.view_is) at c.requires.table_in) c.index_mut.ensures.value in
    tables-take c.self.inside.peers c.self.inside.tables.items c.args.table c.take.new.self
    c.index_mut.result.now c.self.invariant found
    (ap (λ (t : TableRows). t.peers) c.take.ensures.after) c.args.key.now c.args.peer
    (ap (λ (t : TableRows). t.entries) c.take.ensures.after)

pub returns-clause-value : goal.returns-clause-value
returns-clause-value c =
    let found : slice_get c.self.inside.tables.items c.args.table ≡ Some c.index_mut.result.now =
    found_at c.self.inside.tables.items c.args.table c.index_mut.result.now
    (rw (← c.self.view_is) at c.requires.table_in) c.index_mut.ensures.value in
    rw (← c.self.view_is) (c.take.ensures.value
    ∙ sym (lookup-placed c.self.inside.tables.items c.args.table c.index_mut.result.now found
    c.args.key.now c.args.peer))

pub returns-clause-after : goal.returns-clause-after
returns-clause-after c =
    let found : slice_get c.self.inside.tables.items c.args.table ≡ Some c.index_mut.result.now =
    found_at c.self.inside.tables.items c.args.table c.index_mut.result.now
    (rw (← c.self.view_is) at c.requires.table_in) c.index_mut.ensures.value in
    rw (← c.self.view_is) (same_map c.self.inside.peers _ _ _ _
    (length-set c.self.inside.tables.items c.args.table c.take.new.self)
    (placed-take c.self.inside.tables.items c.args.table c.index_mut.result.now found
    c.args.key.now c.args.peer c.take.new.self
    (ap (λ (t : TableRows). t.entries) c.take.ensures.after)))

pub returns-clause-ordered : goal.returns-clause-ordered
returns-clause-ordered c =
    let found : slice_get c.self.inside.tables.items c.args.table ≡ Some c.index_mut.result.now =
    found_at c.self.inside.tables.items c.args.table c.index_mut.result.now
    (rw (← c.self.view_is) at c.requires.table_in) c.index_mut.ensures.value in
    (tables-take c.self.inside.peers c.self.inside.tables.items c.args.table c.take.new.self
    c.index_mut.result.now c.self.invariant found
    (ap (λ (t : TableRows). t.peers) c.take.ensures.after) c.args.key.now c.args.peer
    (ap (λ (t : TableRows). t.entries) c.take.ensures.after)).ordered
