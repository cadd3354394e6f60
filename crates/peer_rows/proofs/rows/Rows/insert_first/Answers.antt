use Rattle.std.proofs.Common.{◌≡◌, ◌≢◌, ◌∙◌, [], ap, List, subst, sym}
use Rattle.std.specs.Prelude.{ℕ, slice_get, Some, map}
use Rattle.peer_rows.specs.declared.row.Row.{Row}
use Rattle.peer_rows.specs.Table.{Spot}
use Rattle.peer_rows.proofs.Kept.{first_then, found_then, map_some}
use Rattle.peer_rows.proofs.Placing.{found_at, of_key-placed, first_result, first_map}
use Rattle.peer_rows.proofs.rows.Rows.insert_first.Goals as goal

pub invariant_of-self : goal.invariant_of-self
invariant_of-self c =
    let found : slice_get c.self.inside.tables.items c.args.table ≡ Some c.index_mut.result.now =
    found_at c.self.inside.tables.items c.args.table c.index_mut.result.now
    (rw (← c.self.view_is) at c.requires.table_in) c.index_mut.ensures.value in
    first_result c.self.inside.tables.items c.args.table
    c.insert_first.new.self c.index_mut.result.now found c.args.key.now c.args.peer c.args.row.now
    c.insert_first.new.row c.self.inside.peers c.self.invariant c.insert_first.result
    c.insert_first.ensures.ok
    c.insert_first.ensures.err

pub returns-clause-new : goal.returns-clause-new
returns-clause-new c =
    let found : slice_get c.self.inside.tables.items c.args.table ≡ Some c.index_mut.result.now =
    found_at c.self.inside.tables.items c.args.table c.index_mut.result.now
    (rw (← c.self.view_is) at c.requires.table_in) c.index_mut.ensures.value in
    rw (← c.self.view_is) (first_then c.insert_first.result
    (λ none. of_key-placed c.self.inside.tables.items c.args.table c.index_mut.result.now found
    c.args.key.now ∙ ap (λ es. map {B = ℕ × Row} (λ (e : Spot × Row). (e.0.1, e.1)) es) none)
    c.insert_first.ensures.new)

pub returns-clause-ok : goal.returns-clause-ok
returns-clause-ok c =
    let found : slice_get c.self.inside.tables.items c.args.table ≡ Some c.index_mut.result.now =
    found_at c.self.inside.tables.items c.args.table c.index_mut.result.now
    (rw (← c.self.view_is) at c.requires.table_in) c.index_mut.ensures.value in
    rw (← c.self.view_is) (first_map c.self.inside.tables.items c.args.table
    c.insert_first.new.self c.index_mut.result.now found c.args.key.now c.args.peer c.args.row.now
    c.insert_first.new.row c.self.inside.peers c.insert_first.result c.insert_first.ensures.ok)

pub returns-clause-ordered : goal.returns-clause-ordered
returns-clause-ordered c =
    let found : slice_get c.self.inside.tables.items c.args.table ≡ Some c.index_mut.result.now =
    found_at c.self.inside.tables.items c.args.table c.index_mut.result.now
    (rw (← c.self.view_is) at c.requires.table_in) c.index_mut.ensures.value in
    (first_result c.self.inside.tables.items c.args.table
    c.insert_first.new.self c.index_mut.result.now found c.args.key.now c.args.peer c.args.row.now
    c.insert_first.new.row c.self.inside.peers c.self.invariant c.insert_first.result
    c.insert_first.ensures.ok
    c.insert_first.ensures.err).ordered

pub returns-clause-held : goal.returns-clause-held
returns-clause-held c =
    let found : slice_get c.self.inside.tables.items c.args.table ≡ Some c.index_mut.result.now =
    found_at c.self.inside.tables.items c.args.table c.index_mut.result.now
    (rw (← c.self.view_is) at c.requires.table_in) c.index_mut.ensures.value in
    rw (← c.self.view_is) (found_then c.insert_first.result
    (λ some. subst (λ (rows : List (ℕ × Row)). rows ≢ [])
    (sym (of_key-placed c.self.inside.tables.items c.args.table c.index_mut.result.now found
    c.args.key.now)) (map_some {B = ℕ × Row} (λ (e : Spot × Row). (e.0.1, e.1)) _ some))
    c.insert_first.ensures.held)
