use Rattle.std.proofs.Common.{◌≡◌, length, ◌<◌, arith}
use Rattle.std.specs.Prelude.{None}
use Rattle.peer_rows.proofs.Kept.{first_fits, kept-first, is_nothing, none_of_key, none_then}
use Rattle.peer_rows.proofs.Kept.{some_listed, some_then}
use Rattle.peer_rows.proofs.table.Table.insert_first.Goals as goal

pub overflow_add-index_mut : goal.overflow_add-index_mut
overflow_add-index_mut c =
    let in_range : c.args.peer < length c.self.inside.counts.items =
    rw (← c.self.view_is) at c.requires in
    let is : c.in_ok-held.held ≡ None = is_nothing c.in_ok-held.held c.if-is_none.ensures in
    let fits = first_fits c.self.inside.keys c.insert_first.new.self c.self.inside.counts.items
    c.args.key.now c.args.peer c.index_mut.result.now c.args.row.now c.self.invariant
    c.in_ok-held.ensures.once (rw is at c.in_ok-held.ensures.ok)
    (rw is at c.in_ok-held.ensures.new) in_range c.index_mut.ensures.value
    c.len-keys.result c.len-keys.ensures.value c.len-keys.ensures.small in
    omega (arith, fits)

pub invariant_of-self-then-is_none : goal.invariant_of-self-then-is_none
invariant_of-self-then-is_none c =
    let in_range : c.args.peer < length c.self.inside.counts.items =
    rw (← c.self.view_is) at c.requires in
    let is : c.in_ok-held.held ≡ None = is_nothing c.in_ok-held.held c.if-is_none.ensures in
    kept-first c.self.inside.keys c.insert_first.new.self c.self.inside.counts.items
    c.args.key.now c.args.peer c.index_mut.result.now c.args.row.now c.self.invariant
    c.in_ok-held.ensures.once (rw is at c.in_ok-held.ensures.ok)
    (rw is at c.in_ok-held.ensures.new) in_range c.index_mut.ensures.value
    c.in_ok-held.ensures.ordered

pub returns-then-is_none-clause-new : goal.returns-then-is_none-clause-new
returns-then-is_none-clause-new c =
    rw (← c.self.view_is) (none_then c.in_ok-held.held
    (none_of_key c.self.inside.keys c.args.key.now) c.in_ok-held.ensures.new)

pub returns-else-is_none-clause-held : goal.returns-else-is_none-clause-held
returns-else-is_none-clause-held c =
    rw (← c.self.view_is) (some_then c.in_ok-held.held
    (some_listed c.self.inside.keys c.args.key.now c.self.invariant.ordered c.self.invariant.once)
    c.in_ok-held.ensures.held)
