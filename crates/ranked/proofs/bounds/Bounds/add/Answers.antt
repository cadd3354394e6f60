use Rattle.std.proofs.Common.{ap, subst, sym, List, ℕ, Some, ◌≡◌, ◌∙◌}
use Rattle.std.specs.Cmp.Lexicographic.{slice_cmp}
use Rattle.std.specs.Ordering.{nat_cmp}
use Rattle.expiry_wheel.specs.Entries.{with_entry}
use Rattle.place_index.specs.Places.{IsAbsent, in_order}
use Rattle.place_index.proofs.Ordered.{absent-lookup}
use Rattle.ranked.proofs.Indexed.{Becomes, back_indexed, put_indexed}
use Rattle.ranked.proofs.Placed.{becomes_others, becomes_own, placed-laid}
use Rattle.ranked.proofs.bounds.Bounds.add.Goals as goal

pub insert-requires : goal.insert-requires
insert-requires c =
    let places = c.self.inside.zeros.places in
    subst (λ (key : List ℕ). IsAbsent places key) (sym c.in_ok-own.ensures.key)
    (absent-lookup places c.args.key.now (rw (← c.self.view_is) at c.requires.new))

-- the key's bound is the one that was laid down
added : (c : goal.In_default) → Becomes (in_order c.self.inside.zeros.places)
    (in_order c.insert.new.self.places) c.args.key.now (Some c.args.zeros)
added c =
    let places = c.self.inside.zeros.places in
    placed-laid places c.insert.new.self.places c.in_default.field-0 c.args.key.now c.in_ok-own.own
    c.args.zeros c.in_ok-own.ensures.key
    (absent-lookup places c.args.key.now (rw (← c.self.view_is) at c.requires.new))
    c.in_default.ensures.empty c.in_default.ensures.ok

pub invariant_of-self-in-Err : goal.invariant_of-self-in-Err
invariant_of-self-in-Err c =
    let index = c.self.inside.index in
    let key = c.args.key.now in
    let planned : c.plan.new.self ≡ with_entry (slice_cmp nat_cmp) index (c.args.zeros, key) =
    c.in_ok-plan.ensures.ok ∙ ap (λ k. with_entry (slice_cmp nat_cmp) index (c.args.zeros, k))
    c.in_ok-duplicate.ensures.key in
    rw (c.in-Err.ensures.err, c.cancel.ensures.removed)
    (back_indexed index c.plan.new.self (in_order c.self.inside.zeros.places) key c.args.zeros
    c.self.invariant (rw (← c.self.view_is) at c.requires.new) planned c.cancel.ensures.ordered)

pub invariant_of-self-in_default : goal.invariant_of-self-in_default
invariant_of-self-in_default c =
    let index = c.self.inside.index in
    let key = c.args.key.now in
    let planned : c.plan.new.self ≡ with_entry (slice_cmp nat_cmp) index (c.args.zeros, key) =
    c.in_ok-plan.ensures.ok ∙ ap (λ k. with_entry (slice_cmp nat_cmp) index (c.args.zeros, k))
    c.in_ok-duplicate.ensures.key in
    rw planned
    (put_indexed index (in_order c.self.inside.zeros.places) (in_order c.insert.new.self.places)
    key c.args.zeros c.self.invariant (rw (← c.self.view_is) at c.requires.new) (added c))

pub returns-clause-kept : goal.returns-clause-kept
returns-clause-kept c = becomes_own _ _ _ _ (added c)

pub returns-clause-others : goal.returns-clause-others
returns-clause-others c = rw (← c.self.view_is) (becomes_others _ _ _ _ (added c))
