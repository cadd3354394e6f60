use Rattle.std.proofs.Common.{◌≡◌, ◌∙◌, sym, length, ◌<◌, arith}
use Rattle.std.specs.Prelude.{None}
use Rattle.std.specs.Map.{lookup}
use Rattle.std.specs.BTreeMap.{is_at}
use Rattle.peer_rows.specs.Table.{rows_in, spot_cmp}
use Rattle.peer_rows.proofs.Kept.{kept-put_new, kept-put_held, is_there, is_missing, get_or_in}
use Rattle.peer_rows.proofs.Kept.{few_after}
use Rattle.peer_rows.proofs.table.Table.put.Goals as goal

pub overflow_add-index_mut : goal.overflow_add-index_mut
overflow_add-index_mut c =
    let in_range : c.args.peer < length c.self.inside.counts.items =
    rw (← c.self.view_is) at c.requires in
    let none : lookup (is_at (spot_cmp (c.args.key.now, c.args.peer))) (rows_in c.self.inside.keys)
    ≡ None = sym c.in_ok-old.ensures.old ∙ is_missing c.in_ok-old.old c.if-is_none.ensures in
    let few = few_after c.self.inside.keys c.put.new.self c.self.inside.counts.items
    c.args.key.now c.args.peer c.args.row c.len-keys.result c.self.invariant
    c.in_ok-old.ensures.ok none c.in_ok-old.ensures.once c.len-keys.ensures.value
    c.len-keys.ensures.small in
    let same = get_or_in c.self.inside.counts.items c.args.peer c.index_mut.result.now in_range
    c.index_mut.ensures.value in
    omega (arith, few, same)

pub invariant_of-self-then-is_none : goal.invariant_of-self-then-is_none
invariant_of-self-then-is_none c =
    let in_range : c.args.peer < length c.self.inside.counts.items =
    rw (← c.self.view_is) at c.requires in
    let none : lookup (is_at (spot_cmp (c.args.key.now, c.args.peer))) (rows_in c.self.inside.keys)
    ≡ None = sym c.in_ok-old.ensures.old ∙ is_missing c.in_ok-old.old c.if-is_none.ensures in
    rw (get_or_in c.self.inside.counts.items c.args.peer c.index_mut.result.now in_range
    c.index_mut.ensures.value)
    (kept-put_new c.self.inside.keys c.put.new.self c.self.inside.counts.items c.args.key.now
    c.args.peer c.self.invariant c.in_ok-old.ensures.ordered c.in_ok-old.ensures.once c.args.row
    c.in_ok-old.ensures.ok none in_range)

pub invariant_of-self-else-is_none : goal.invariant_of-self-else-is_none
invariant_of-self-else-is_none c =
    let there = is_there c.in_ok-old.old c.if-is_none.ensures in
    kept-put_held c.self.inside.keys c.put.new.self c.self.inside.counts.items c.args.key.now
    c.args.peer c.self.invariant c.in_ok-old.ensures.ordered c.in_ok-old.ensures.once c.args.row
    there.0 c.in_ok-old.ensures.ok (sym c.in_ok-old.ensures.old ∙ there.1)
