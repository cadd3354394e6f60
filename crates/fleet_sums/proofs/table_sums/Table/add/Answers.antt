use Rattle.std.proofs.Common.{◌≡◌, ◌+◌, ◌∙◌, sym, ap, length}
use Rattle.std.specs.Prelude.{Some}
use Rattle.std.specs.Ordering.{nat_cmp}
use Rattle.std.specs.Cmp.Lexicographic.{slice_cmp}
use Rattle.std.specs.Map.{lookup}
use Rattle.std.specs.BTreeMap.{is_at, insert_entry}
use Rattle.fleet_sums.specs.Totals.{KeyTotals}
use Rattle.fleet_sums.proofs.Columns.{length-totals_by}
use Rattle.std.proofs.lemmas.List.{length-replicate}
use Rattle.fleet_sums.proofs.Keeping.{width-held, set-held, table-set, table-insert, same_table}
use Rattle.fleet_sums.proofs.table_sums.Table.add.Goals as goal

pub add-requires-clause-width : goal.add-requires-clause-width
add-requires-clause-width c =
    let width = width-held c.self.inside.width c.self.inside.keys.entries c.args.key.now
    c.self.invariant c.in-Some.sums.now c.in-Some.sums.now (sym c.in-Some.ensures.value) in
    rw (← c.self.view_is) at c.requires.width ∙ sym width

pub invariant_of-self : goal.invariant_of-self
invariant_of-self c =
    table-set c.self.inside.width c.self.inside.keys.entries c.args.key.now c.self.invariant
    c.in-Some.sums.now c.add.new.self (sym c.in-Some.ensures.value)
    (c.get_mut.follows.lender c.add.new.self).entries (c.get_mut.follows.holds c.add.new.self).0
    (ap (λ (k : KeyTotals). length k.totals) c.add.ensures
    ∙ length-totals_by (λ t n. t + n) c.in-Some.sums.now.totals c.args.row.now.cells)

pub returns-in-Some-clause-ok : goal.returns-in-Some-clause-ok
returns-in-Some-clause-ok c =
    let found : lookup (is_at (slice_cmp nat_cmp c.args.key.now)) c.self.inside.keys.entries
    ≡ Some c.in-Some.sums.now = sym c.in-Some.ensures.value in
    let set = (c.get_mut.follows.holds c.add.new.self).0
    ∙ set-held c.self.inside.width c.self.inside.keys.entries c.args.key.now c.self.invariant
    c.in-Some.sums.now c.add.new.self found in
    rw (← c.self.view_is, found) (same_table c.self.inside.width _ _ (set
    ∙ ap (λ k. insert_entry (slice_cmp nat_cmp) c.self.inside.keys.entries c.args.key.now k)
    c.add.ensures))

pub invariant_of-self-2 : goal.invariant_of-self-2
invariant_of-self-2 c =
    table-insert c.self.inside.width c.self.inside.keys.entries c.args.key.now c.self.invariant
    c.insert.new.self.entries c.add-2.new.self
    (rw (c.get_mut.follows.holds-at-none, c.in_ok-duplicate.ensures.key)
    at c.in_ok-insert.ensures.entries)
    (rw (c.add-2.ensures, length-totals_by, c.in_ok-sums.ensures)
    (length-replicate c.self.inside.width 0))
    c.in_ok-insert.ensures.ordered
