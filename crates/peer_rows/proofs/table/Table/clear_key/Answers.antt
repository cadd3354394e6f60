use Rattle.std.proofs.Common.{◌≡◌, ◌∙◌, sym, ap, arith, refl, length}
use Rattle.std.specs.Vec.{with_items}
use Rattle.std.proofs.lemmas.List.{with_items_is}
use Rattle.peer_rows.specs.Table.{rows_in}
use Rattle.peer_rows.proofs.Kept.{same_rows, kept-clear, can_count_down, clear_held, clear_not_held}
use Rattle.peer_rows.proofs.Kept.{length-rows_of_key, none_of_key}
use Rattle.peer_rows.proofs.table.Table.clear_key.Goals as goal

pub count_down-requires : goal.count_down-requires
count_down-requires c = rw c.deref_mut.ensures.value
    (can_count_down c.self.inside.keys c.self.inside.counts.items c.args.key.now c.in-Some.rows
    c.self.invariant (sym c.in-Some.ensures.value))

pub invariant_of-self : goal.invariant_of-self
invariant_of-self c =
    rw (with_items_is c.self.inside.counts c.count_down.new.counts (omega arith))
    (kept-clear c.self.inside.keys c.remove.new.self c.self.inside.counts.items
    c.count_down.new.counts c.args.key.now c.in-Some.rows c.self.invariant
    (sym c.in-Some.ensures.value) c.in-Some.ensures.entries c.in-Some.ensures.ordered
    (rw c.deref_mut.ensures.value at c.count_down.ensures))

pub returns-in-Some-clause-after : goal.returns-in-Some-clause-after
returns-in-Some-clause-after c =
    let entries = ap rows_in c.in-Some.ensures.entries
    ∙ clear_held c.self.inside.keys c.args.key.now c.in-Some.rows c.self.invariant.ordered
    (sym c.in-Some.ensures.value) in
    let same = with_items_is c.self.inside.counts c.count_down.new.counts (omega arith) in
    let peers : length (with_items c.self.inside.counts c.count_down.new.counts).items
    ≡ length c.self.inside.counts.items = rw same (omega arith) in
    rw (← c.self.view_is) (same_rows _ _ _ _ peers entries)

pub returns-in-Some-clause-value : goal.returns-in-Some-clause-value
returns-in-Some-clause-value c = rw (← c.self.view_is) (c.len-count.ensures
    ∙ sym (length-rows_of_key c.self.inside.keys c.args.key.now c.in-Some.rows
    c.self.invariant.ordered (sym c.in-Some.ensures.value)))

pub returns-in-None-clause-after : goal.returns-in-None-clause-after
returns-in-None-clause-after c =
    let entries = ap rows_in c.in-None.ensures.unchanged
    ∙ sym (clear_not_held c.self.inside.keys c.args.key.now (sym c.in-None.ensures.value)) in
    rw (← c.self.view_is) (same_rows _ _ _ _ refl entries)

pub returns-in-None-clause-value : goal.returns-in-None-clause-value
returns-in-None-clause-value c = let none =
    none_of_key c.self.inside.keys c.args.key.now (sym c.in-None.ensures.value) in
    rw (← c.self.view_is, none) refl
