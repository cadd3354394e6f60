use Rattle.std.proofs.Common.{◌≡◌, ◌+◌, ◌-◌, ◌∙◌, sym, ap, length}
use Rattle.std.specs.Prelude.{Some}
use Rattle.std.specs.Ordering.{nat_cmp}
use Rattle.std.specs.Cmp.Lexicographic.{slice_cmp}
use Rattle.std.specs.Map.{lookup}
use Rattle.std.specs.BTreeMap.{is_at, insert_entry}
use Rattle.fleet_sums.specs.Totals.{KeyTotals, with_row_less}
use Rattle.fleet_sums.proofs.Columns.{length-totals_by}
use Rattle.fleet_sums.proofs.Keeping.{width-held, set-held, table-set, same_table}
use Rattle.fleet_sums.proofs.table_sums.Table.replace_row.Goals as goal

pub replace_row-requires-clause-old_width : goal.replace_row-requires-clause-old_width
replace_row-requires-clause-old_width c =
    let width = width-held c.self.inside.width c.self.inside.keys.entries c.args.key.now
    c.self.invariant c.in-Some.sums.now c.in-Some.sums.now (sym c.in-Some.ensures.value) in
    rw (← c.self.view_is) at c.requires.old_width ∙ sym width

pub replace_row-requires-clause-new_width : goal.replace_row-requires-clause-new_width
replace_row-requires-clause-new_width c =
    let width = width-held c.self.inside.width c.self.inside.keys.entries c.args.key.now
    c.self.invariant c.in-Some.sums.now c.in-Some.sums.now (sym c.in-Some.ensures.value) in
    rw (← c.self.view_is) at c.requires.new_width ∙ sym width

pub invariant_of-self-2 : goal.invariant_of-self-2
invariant_of-self-2 c =
    let taken : KeyTotals = with_row_less c.in-Some.sums.now c.args.old.now.cells in
    table-set c.self.inside.width c.self.inside.keys.entries c.args.key.now c.self.invariant
    c.in-Some.sums.now c.replace_row.new.self (sym c.in-Some.ensures.value)
    (c.get_mut.follows.lender c.replace_row.new.self).entries
    (c.get_mut.follows.holds c.replace_row.new.self).0
    (ap (λ (k : KeyTotals). length k.totals) c.replace_row.ensures
    ∙ length-totals_by (λ t n. t + n) taken.totals c.args.new.now.cells
    ∙ length-totals_by (λ t n. t - n) c.in-Some.sums.now.totals c.args.old.now.cells)

pub returns : goal.returns
returns c =
    let found : lookup (is_at (slice_cmp nat_cmp c.args.key.now)) c.self.inside.keys.entries
    ≡ Some c.in-Some.sums.now = sym c.in-Some.ensures.value in
    let set = (c.get_mut.follows.holds c.replace_row.new.self).0
    ∙ set-held c.self.inside.width c.self.inside.keys.entries c.args.key.now c.self.invariant
    c.in-Some.sums.now c.replace_row.new.self found in
    rw (← c.self.view_is, found) (same_table c.self.inside.width _ _ (set
    ∙ ap (λ k. insert_entry (slice_cmp nat_cmp) c.self.inside.keys.entries c.args.key.now k)
    c.replace_row.ensures))
