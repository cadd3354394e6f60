use Rattle.std.proofs.Common.{◌≡◌, true, ap, sym, ◌∙◌, subst}
use Rattle.std.specs.Ordering.{nat_cmp}
use Rattle.std.specs.BTreeMap.{is_at}
use Rattle.std.specs.Map.{set_value, remove_entry}
use Rattle.expiry_wheel.specs.Entries.{has_entry, without_entry, IsInOrder}
use Rattle.expiry_wheel.specs.Moments.{entries_of}
use Rattle.expiry_wheel.proofs.Lists.{some_items}
use Rattle.expiry_wheel.proofs.Grouped.{Located, Vacant, place_found, gap_found, groups_written}
use Rattle.expiry_wheel.proofs.Grouped.{groups_dropped, cancelled_there, cancelled_last}
use Rattle.expiry_wheel.proofs.Grouped.{cancelled_absent, has_there, has_absent, sorted-entries_of}
use Rattle.expiry_wheel.proofs.ordered.OrderedDueDueIndex.cancel.Goals as goal

pub returns-in_default-clause-found : goal.returns-in_default-clause-found
returns-in_default-clause-found g c =
    let ms = c.self.inside.moments.entries in
    let gap : Vacant c.args.at ms = gap_found g.T.Ord.cmp c.args.at ms c.self.invariant
    c.get_mut.result c.get_mut.follows.claims.0 c.in_default.is in
    sym (has_absent g.T.Ord.cmp c.args.at c.args.item.now ms gap)
    ∙ ap (λ es. has_entry g.T.Ord.cmp es (c.args.at, c.args.item.now)) c.self.view_is

pub returns-in_default-clause-removed : goal.returns-in_default-clause-removed
returns-in_default-clause-removed g c =
    let ms = c.self.inside.moments.entries in
    let gap : Vacant c.args.at ms = gap_found g.T.Ord.cmp c.args.at ms c.self.invariant
    c.get_mut.result c.get_mut.follows.claims.0 c.in_default.is in
    ap (λ m. entries_of m.entries) c.get_mut.follows.holds-at-none
    ∙ sym (cancelled_absent g.T.Ord.cmp c.args.at c.args.item.now ms gap)
    ∙ ap (λ es. without_entry g.T.Ord.cmp es (c.args.at, c.args.item.now)) c.self.view_is

pub invariant_of-self-then-is_empty : goal.invariant_of-self-then-is_empty
invariant_of-self-then-is_empty g c =
    let ms = c.self.inside.moments.entries in
    let place : Located c.args.at c.in-Some.together.now ms =
    place_found g.T.Ord.cmp c.args.at ms c.self.invariant c.get_mut.result
    c.get_mut.follows.claims.0 c.in-Some.together c.in-Some.is in
    rw (c.drop_moment.ensures, (c.get_mut.follows.holds c.remove-found.new.self).0)
    (groups_dropped g.T.Ord.cmp c.args.at c.in-Some.together.now c.remove-found.new.self ms place
    c.self.invariant)

pub invariant_of-self-else-is_empty : goal.invariant_of-self-else-is_empty
invariant_of-self-else-is_empty g c =
    let ms = c.self.inside.moments.entries in
    let place : Located c.args.at c.in-Some.together.now ms =
    place_found g.T.Ord.cmp c.args.at ms c.self.invariant c.get_mut.result
    c.get_mut.follows.claims.0 c.in-Some.together c.in-Some.is in
    rw (c.get_mut.follows.holds c.remove-found.new.self).0
    (groups_written g.T.Ord.cmp c.args.at c.in-Some.together.now c.remove-found.new.self ms place
    c.self.invariant (some_items c.remove-found.new.self (λ e. let yes : c.is_empty.result
    ≡ true = c.is_empty.ensures.1 e in cc (c.if-is_empty.false)))
    c.remove-found.ensures.ordered)

pub returns-then-is_empty-clause-found : goal.returns-then-is_empty-clause-found
returns-then-is_empty-clause-found g c =
    let ms = c.self.inside.moments.entries in
    let place : Located c.args.at c.in-Some.together.now ms =
    place_found g.T.Ord.cmp c.args.at ms c.self.invariant c.get_mut.result
    c.get_mut.follows.claims.0 c.in-Some.together c.in-Some.is in
    c.remove-found.ensures.found ∙ sym (has_there g.T.Ord.cmp c.args.at c.args.item.now
    c.in-Some.together.now ms place)
    ∙ ap (λ es. has_entry g.T.Ord.cmp es (c.args.at, c.args.item.now)) c.self.view_is

pub returns-else-is_empty-clause-found : goal.returns-else-is_empty-clause-found
returns-else-is_empty-clause-found g c =
    let ms = c.self.inside.moments.entries in
    let place : Located c.args.at c.in-Some.together.now ms =
    place_found g.T.Ord.cmp c.args.at ms c.self.invariant c.get_mut.result
    c.get_mut.follows.claims.0 c.in-Some.together c.in-Some.is in
    c.remove-found.ensures.found ∙ sym (has_there g.T.Ord.cmp c.args.at c.args.item.now
    c.in-Some.together.now ms place)
    ∙ ap (λ es. has_entry g.T.Ord.cmp es (c.args.at, c.args.item.now)) c.self.view_is

pub returns-then-is_empty-clause-removed : goal.returns-then-is_empty-clause-removed
returns-then-is_empty-clause-removed g c =
    let ms = c.self.inside.moments.entries in
    let place : Located c.args.at c.in-Some.together.now ms =
    place_found g.T.Ord.cmp c.args.at ms c.self.invariant c.get_mut.result
    c.get_mut.follows.claims.0 c.in-Some.together c.in-Some.is in
    ap entries_of (c.drop_moment.ensures
    ∙ ap (remove_entry (is_at (nat_cmp c.args.at)))
    (c.get_mut.follows.holds c.remove-found.new.self).0)
    ∙ sym (cancelled_last g.T.Ord.cmp c.args.at c.args.item.now c.in-Some.together.now
    c.remove-found.new.self ms place (sym c.remove-found.ensures.removed
    ∙ c.is_empty.ensures.0 c.if-is_empty.true))
    ∙ ap (λ es. without_entry g.T.Ord.cmp es (c.args.at, c.args.item.now)) c.self.view_is

pub returns-else-is_empty-clause-removed : goal.returns-else-is_empty-clause-removed
returns-else-is_empty-clause-removed g c =
    let ms = c.self.inside.moments.entries in
    let place : Located c.args.at c.in-Some.together.now ms =
    place_found g.T.Ord.cmp c.args.at ms c.self.invariant c.get_mut.result
    c.get_mut.follows.claims.0 c.in-Some.together c.in-Some.is in
    ap entries_of (c.get_mut.follows.holds c.remove-found.new.self).0
    ∙ ap (λ w. entries_of (set_value (is_at (nat_cmp c.args.at)) ms w))
    c.remove-found.ensures.removed
    ∙ sym (cancelled_there g.T.Ord.cmp c.args.at c.args.item.now c.in-Some.together.now ms place)
    ∙ ap (λ es. without_entry g.T.Ord.cmp es (c.args.at, c.args.item.now)) c.self.view_is

pub returns-in_default-clause-ordered : goal.returns-in_default-clause-ordered
returns-in_default-clause-ordered g c =
    subst (IsInOrder g.T.Ord.cmp) c.self.view_is
    (sorted-entries_of g.T.Ord.cmp c.self.inside.moments.entries c.self.invariant)

pub returns-then-is_empty-clause-ordered : goal.returns-then-is_empty-clause-ordered
returns-then-is_empty-clause-ordered g c =
    subst (IsInOrder g.T.Ord.cmp) c.self.view_is
    (sorted-entries_of g.T.Ord.cmp c.self.inside.moments.entries c.self.invariant)

pub returns-else-is_empty-clause-ordered : goal.returns-else-is_empty-clause-ordered
returns-else-is_empty-clause-ordered g c =
    subst (IsInOrder g.T.Ord.cmp) c.self.view_is
    (sorted-entries_of g.T.Ord.cmp c.self.inside.moments.entries c.self.invariant)
