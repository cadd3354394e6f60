use Rattle.std.proofs.Common.{◌≡◌, ◌<◌, ◌∷◌, [], length, ap, sym, ◌∙◌, subst, arith}
use Rattle.std.specs.Prelude.{Some}
use Rattle.std.specs.Option.{option_copied_mut}
use Rattle.std.specs.Ordering.{nat_cmp}
use Rattle.std.specs.List.Sorted.{IsStrictlySortedBy}
use Rattle.std.specs.BTreeMap.{is_at, insert_entry}
use Rattle.std.specs.Map.{lookup, set_value}
use Rattle.std.proofs.lemmas.Map.Steps.{set_value_same}
use Rattle.expiry_wheel.specs.Entries.{with_entry, IsInOrder}
use Rattle.expiry_wheel.specs.Moments.{entries_of, AreGroups}
use Rattle.expiry_wheel.proofs.Lists.{some-insert_key}
use Rattle.expiry_wheel.proofs.Steps.{on_ok, on_err, either_way}
use Rattle.expiry_wheel.proofs.Grouped.{Located, located, Vacant, vacant, some_located}
use Rattle.expiry_wheel.proofs.Grouped.{groups_written, groups_inserted, planned_there}
use Rattle.expiry_wheel.proofs.Grouped.{planned_anew, sorted-entries_of}
use Rattle.expiry_wheel.proofs.ordered.OrderedDueDueIndex.plan.Given as given
use Rattle.expiry_wheel.proofs.ordered.OrderedDueDueIndex.plan.Goals as goal

-- what the look-up found
found : (g : given.Over) (c : goal.After-self-in-Some-1 g)
    → lookup (is_at (nat_cmp c.args.at)) c.self.inside.moments.entries ≡ Some c.in-Some.together.now
found g c = sym c.get_mut.follows.claims.0 ∙ ap option_copied_mut c.in-Some.is

place : (g : given.Over) (c : goal.After-self-in-Some-1 g)
    → Located c.args.at c.in-Some.together.now c.self.inside.moments.entries
place g c = located g.T.Ord.cmp c.args.at c.in-Some.together.now c.self.inside.moments.entries
    c.self.invariant (found g c)

pub invariant_of-self : goal.invariant_of-self
invariant_of-self g c =
    let some : 0 < length c.in-Some.together.now =
    some_located g.T.Ord.cmp c.args.at c.in-Some.together.now c.self.inside.moments.entries
    (place g c) c.self.invariant in
    let grown : 0 < length c.insert.new.self =
    either_way c.insert.result c.insert.ensures.ok c.insert.ensures.err
    (λ e. subst (λ l. 0 < length l) (sym e)
    (some-insert_key g.T.Ord.cmp c.in-Some.together.now c.args.item))
    (λ e. subst (λ l. 0 < length l) (sym e) some) in
    rw (c.get_mut.follows.holds c.insert.new.self).0
    (groups_written g.T.Ord.cmp c.args.at c.in-Some.together.now c.insert.new.self
    c.self.inside.moments.entries (place g c) c.self.invariant grown c.insert.ensures.ordered)

pub returns-in-Some-clause-ok : goal.returns-in-Some-clause-ok
returns-in-Some-clause-ok g c =
    on_ok c.insert.result c.insert.ensures.ok (λ e.
    ap entries_of (c.get_mut.follows.holds c.insert.new.self).0
    ∙ ap (λ w. entries_of (set_value (is_at (nat_cmp c.args.at)) c.self.inside.moments.entries w)) e
    ∙ sym (planned_there g.T.Ord.cmp c.args.at c.args.item c.in-Some.together.now
    c.self.inside.moments.entries (place g c))
    ∙ ap (λ es. with_entry g.T.Ord.cmp es (c.args.at, c.args.item)) c.self.view_is)

pub returns-in-Some-clause-err : goal.returns-in-Some-clause-err
returns-in-Some-clause-err g c =
    on_err c.insert.result c.insert.ensures.err (λ e.
    ap entries_of (c.get_mut.follows.holds c.insert.new.self).0
    ∙ ap (λ w. entries_of (set_value (is_at (nat_cmp c.args.at)) c.self.inside.moments.entries w)) e
    ∙ ap entries_of (set_value_same (is_at (nat_cmp c.args.at)) c.self.inside.moments.entries
    c.in-Some.together.now (found g c))
    ∙ c.self.view_is)

-- with no items at the moment, the new map has the one item there
anew : (g : given.Over) (c : goal.Joined-branch-2 g) → c.insert-2.new.self.entries
    ≡ insert_entry nat_cmp c.self.inside.moments.entries c.args.at (c.args.item ∷ [])
anew g c =
    c.in_ok-insert.ensures.entries
    ∙ ap (λ m. insert_entry nat_cmp m.entries c.args.at c.one-together.result)
    c.get_mut.follows.holds-at-none
    ∙ ap (λ w. insert_entry nat_cmp c.self.inside.moments.entries c.args.at w)
    c.one-together.ensures

gap_at : (g : given.Over) (c : goal.Joined-branch-2 g)
    → Vacant c.args.at c.self.inside.moments.entries
gap_at g c = vacant g.T.Ord.cmp c.args.at c.self.inside.moments.entries c.self.invariant
    (sym c.get_mut.follows.claims.0 ∙ ap option_copied_mut c.in_default.is)

pub invariant_of-self-2 : goal.invariant_of-self-2
unfolding IsStrictlySortedBy
invariant_of-self-2 g c =
    subst (AreGroups g.T.Ord.cmp) (sym (anew g c))
    (groups_inserted g.T.Ord.cmp c.args.at (c.args.item ∷ []) c.self.inside.moments.entries
    (gap_at g c) c.self.invariant (omega arith) (tt, tt))

pub returns-clause-ok : goal.returns-clause-ok
returns-clause-ok g c =
    ap entries_of (anew g c)
    ∙ sym (planned_anew g.T.Ord.cmp c.args.at c.args.item
    c.self.inside.moments.entries (gap_at g c))
    ∙ ap (λ es. with_entry g.T.Ord.cmp es (c.args.at, c.args.item)) c.self.view_is

pub returns-in-Some-clause-ordered : goal.returns-in-Some-clause-ordered
returns-in-Some-clause-ordered g c =
    subst (IsInOrder g.T.Ord.cmp) c.self.view_is
    (sorted-entries_of g.T.Ord.cmp c.self.inside.moments.entries c.self.invariant)

pub returns-in_err-insert-clause-ordered : goal.returns-in_err-insert-clause-ordered
returns-in_err-insert-clause-ordered g c =
    subst (IsInOrder g.T.Ord.cmp) c.self.view_is
    (sorted-entries_of g.T.Ord.cmp c.self.inside.moments.entries c.self.invariant)

pub returns-clause-ordered : goal.returns-clause-ordered
returns-clause-ordered g c =
    subst (IsInOrder g.T.Ord.cmp) c.self.view_is
    (sorted-entries_of g.T.Ord.cmp c.self.inside.moments.entries c.self.invariant)
