use Rattle.std.proofs.Common.{◌≡◌, ◌-◌, ◌∙◌, sym, ap, length}
use Rattle.std.specs.Prelude.{Some}
use Rattle.std.specs.Ordering.{nat_cmp}
use Rattle.std.specs.Cmp.Lexicographic.{slice_cmp}
use Rattle.std.specs.Map.{lookup, remove_entry}
use Rattle.std.proofs.lemmas.Map.Steps.{set_value_same}
use Rattle.std.specs.BTreeMap.{is_at, insert_entry}
use Rattle.fleet_sums.specs.Totals.{KeyTotals}
use Rattle.fleet_sums.proofs.Columns.{length-totals_by}
use Rattle.fleet_sums.proofs.Keeping.{width-held, set-held, table-set, table-remove, same_table}
use Rattle.fleet_sums.proofs.Keeping.{last_row, not_last_row}
use Rattle.fleet_sums.proofs.table_sums.Table.drop_row.Goals as goal

pub invariant_of-self-then-rows-eq1 : goal.invariant_of-self-then-rows-eq1
invariant_of-self-then-rows-eq1 c =
    let found : lookup (is_at (slice_cmp nat_cmp c.args.key.now)) c.self.inside.keys.entries
    ≡ Some c.in-Some.sums.now = sym c.in-Some.ensures.value in
    let before = (c.get_mut.follows.holds c.in-Some.sums.now).0
    ∙ set_value_same (is_at (slice_cmp nat_cmp c.args.key.now)) c.self.inside.keys.entries
    c.in-Some.sums.now found in
    let gone = c.forget.ensures.entries
    ∙ ap (λ es. remove_entry (is_at (slice_cmp nat_cmp c.args.key.now)) es) before in
    table-remove c.self.inside.width c.self.inside.keys.entries c.args.key.now c.self.invariant
    c.forget.new.keys.entries gone c.forget.ensures.ordered

pub drop_row-requires-clause-width : goal.drop_row-requires-clause-width
drop_row-requires-clause-width c =
    let width = width-held c.self.inside.width c.self.inside.keys.entries c.args.key.now
    c.self.invariant c.in-Some.sums.now c.in-Some.sums.now (sym c.in-Some.ensures.value) in
    rw (← c.self.view_is) at c.requires.width ∙ sym width

pub invariant_of-self-else-rows-eq1 : goal.invariant_of-self-else-rows-eq1
invariant_of-self-else-rows-eq1 c =
    table-set c.self.inside.width c.self.inside.keys.entries c.args.key.now c.self.invariant
    c.in-Some.sums.now c.drop_row.new.self (sym c.in-Some.ensures.value)
    (c.get_mut.follows.lender c.drop_row.new.self).entries
    (c.get_mut.follows.holds c.drop_row.new.self).0
    (ap (λ (k : KeyTotals). length k.totals) c.drop_row.ensures
    ∙ length-totals_by (λ t n. t - n) c.in-Some.sums.now.totals c.args.row.now.cells)

pub returns-then-rows-eq1 : goal.returns-then-rows-eq1
returns-then-rows-eq1 c =
    let found : lookup (is_at (slice_cmp nat_cmp c.args.key.now)) c.self.inside.keys.entries
    ≡ Some c.in-Some.sums.now = sym c.in-Some.ensures.value in
    let before = (c.get_mut.follows.holds c.in-Some.sums.now).0
    ∙ set_value_same (is_at (slice_cmp nat_cmp c.args.key.now)) c.self.inside.keys.entries
    c.in-Some.sums.now found in
    let gone = c.forget.ensures.entries
    ∙ ap (λ es. remove_entry (is_at (slice_cmp nat_cmp c.args.key.now)) es) before in
    let last = last_row c.in-Some.sums.now c.args.row.now.cells (sym c.rows.ensures
    ∙ c.if-rows-eq1.true) in
    rw (← c.self.view_is, found, last) (same_table c.self.inside.width _ _ gone)

pub returns-else-rows-eq1 : goal.returns-else-rows-eq1
returns-else-rows-eq1 c =
    let found : lookup (is_at (slice_cmp nat_cmp c.args.key.now)) c.self.inside.keys.entries
    ≡ Some c.in-Some.sums.now = sym c.in-Some.ensures.value in
    let set = (c.get_mut.follows.holds c.drop_row.new.self).0
    ∙ set-held c.self.inside.width c.self.inside.keys.entries c.args.key.now c.self.invariant
    c.in-Some.sums.now c.drop_row.new.self found in
    let more = not_last_row c.in-Some.sums.now c.args.row.now.cells
    (λ one. c.if-rows-eq1.false (c.rows.ensures ∙ one)) in
    rw (← c.self.view_is, found, more) (same_table c.self.inside.width _ _ (set
    ∙ ap (λ k. insert_entry (slice_cmp nat_cmp) c.self.inside.keys.entries c.args.key.now k)
    c.drop_row.ensures))
