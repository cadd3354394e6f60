use Rattle.std.proofs.Common.{◌≡◌, ◌∙◌, sym, length, ◌<◌}
use Rattle.std.specs.Prelude.{None}
use Rattle.std.specs.Map.{lookup}
use Rattle.std.specs.BTreeMap.{is_at}
use Rattle.peer_rows.specs.Table.{rows_in, spot_cmp}
use Rattle.peer_rows.proofs.Kept.{kept-take, kept-same, is_there, is_missing, get_or_in}
use Rattle.peer_rows.proofs.Kept.{counted_some}
use Rattle.peer_rows.proofs.Selecting.{remove_entry-missing}
use Rattle.peer_rows.proofs.table.Table.take.Goals as goal

pub overflow_sub-index_mut : goal.overflow_sub-index_mut
overflow_sub-index_mut c =
    let in_range : c.args.peer < length c.self.inside.counts.items =
    rw (← c.self.view_is) at c.requires in
    let there = is_there c.take-old.result (sym c.if-is_some.ensures) in
    rw (get_or_in c.self.inside.counts.items c.args.peer c.index_mut.result.now in_range
    c.index_mut.ensures.value)
    (counted_some c.self.inside.keys c.self.inside.counts.items c.args.key.now c.args.peer there.0
    c.self.invariant (sym c.take-old.ensures.value ∙ there.1))

pub invariant_of-self : goal.invariant_of-self
invariant_of-self c =
    let in_range : c.args.peer < length c.self.inside.counts.items =
    rw (← c.self.view_is) at c.requires in
    let there = is_there c.take-old.result (sym c.if-is_some.ensures) in
    rw (get_or_in c.self.inside.counts.items c.args.peer c.index_mut.result.now in_range
    c.index_mut.ensures.value)
    (kept-take c.self.inside.keys c.take-old.new.self c.self.inside.counts.items c.args.key.now
    c.args.peer c.self.invariant c.take-old.ensures.ordered c.take-old.ensures.once there.0
    c.take-old.ensures.after (sym c.take-old.ensures.value ∙ there.1) in_range)

pub invariant_of-self-else-is_some : goal.invariant_of-self-else-is_some
invariant_of-self-else-is_some c =
    let none : lookup (is_at (spot_cmp (c.args.key.now, c.args.peer))) (rows_in c.self.inside.keys)
    ≡ None = sym c.take-old.ensures.value
    ∙ is_missing c.take-old.result (sym c.if-is_some.ensures) in
    kept-same c.self.inside.keys c.take-old.new.self c.self.inside.counts.items c.self.invariant
    c.take-old.ensures.ordered c.take-old.ensures.once (c.take-old.ensures.after
    ∙ remove_entry-missing (is_at (spot_cmp (c.args.key.now, c.args.peer)))
    (rows_in c.self.inside.keys) none)
