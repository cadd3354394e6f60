use Rattle.std.proofs.Common.{◌≡◌, ◌≤◌, ◌+◌, ◌*◌, Some, ap, sym, subst, ◌∙◌}
use Rattle.std.specs.Prelude.{◌≢◌}
use Rattle.std.specs.Option.{IsSomeAnd, option_map}
use Rattle.std.specs.Cmp.Lexicographic.{slice_cmp}
use Rattle.std.specs.Ordering.{nat_cmp}
use Rattle.expiry_wheel.specs.Entries.{with_entry}
use Rattle.place_index.specs.Places.{in_order}
use Rattle.ranked.specs.Walk.{bound_of}
use Rattle.ranked.proofs.Indexed.{Becomes, moved_indexed}
use Rattle.ranked.proofs.Placed.{becomes_others, becomes_own, placed-revalued}
use Rattle.ranked.proofs.Zeros.{unserved}
use Rattle.ranked.proofs.bounds.Bounds.touch_near.Goals as goal

-- the key's bound is the one that is wanted
moved : (c : goal.After-replace) → Becomes (in_order c.self.inside.zeros.places)
    (in_order c.replace.new.self.places) c.args.key.now (Some c.zeros_for-wanted.result)
moved c = placed-revalued c.self.inside.zeros.places c.replace.new.self.places c.in-Some.at
    c.args.key.now c.zeros_for-wanted.result c.in-Some.ensures.distinct c.in-Some.ensures.own
    c.replace.ensures.after

pub invariant_of-self-2 : goal.invariant_of-self-2
invariant_of-self-2 c =
    let index = c.self.inside.index in
    let key = c.args.key.now in
    let wanted = c.zeros_for-wanted.result in
    let planned : c.plan.new.self ≡ with_entry (slice_cmp nat_cmp) index (wanted, key) =
    c.in_ok-plan.ensures.ok ∙ ap (λ k. with_entry (slice_cmp nat_cmp) index (wanted, k))
    c.in_ok-duplicate.ensures.key in
    let other : c.in-Some.zeros ≢ wanted = unserved c.in-Some.zeros wanted c.args.bound
    (sym c.serves.ensures ∙ c.if-serves.false) c.zeros_for-wanted.ensures.holds
    c.zeros_for-wanted.ensures.near in
    rw c.cancel.ensures.removed
    (moved_indexed index c.plan.new.self (in_order c.self.inside.zeros.places)
    (in_order c.replace.new.self.places) key c.in-Some.zeros wanted c.self.invariant
    (sym c.in-Some.ensures.value) other planned c.cancel.ensures.ordered (moved c))

pub returns-clause-holds : goal.returns-clause-holds
returns-clause-holds c =
    subst (λ zeros. IsSomeAnd (option_map bound_of zeros) (λ kept. c.args.bound ≤ kept))
    (sym (becomes_own _ _ _ _ (moved c))) c.zeros_for-wanted.ensures.holds

pub returns-clause-near : goal.returns-clause-near
returns-clause-near c =
    subst (λ zeros. IsSomeAnd (option_map bound_of zeros) (λ kept. kept ≤ 4 * c.args.bound + 3))
    (sym (becomes_own _ _ _ _ (moved c))) c.zeros_for-wanted.ensures.near

pub returns-clause-others : goal.returns-clause-others
returns-clause-others c = rw (← c.self.view_is) (becomes_others _ _ _ _ (moved c))
