use Rattle.std.proofs.Common.{◌≡◌, ◌<◌, ◌≤◌, [], ◌++◌, ap, sym, ◌∙◌, subst, arith}
use Rattle.std.specs.Prelude.{slice_set, slice_index_or}
use Rattle.expiry_wheel.specs.Entries.{entry_cmp, with_entry, IsInOrder}
use Rattle.expiry_wheel.specs.Slots.{slot_of, entries_in, IsWheel}
use Rattle.expiry_wheel.proofs.Steps.{on_ok, on_err, either_way}
use Rattle.expiry_wheel.proofs.Left.{entries_total}
use Rattle.expiry_wheel.proofs.Slotted.{Opened, opened, all-insert_key, sorted-insert_key}
use Rattle.expiry_wheel.proofs.Slotted.{wheel_near, wheel_written, here_ordered, here_slotted}
use Rattle.expiry_wheel.proofs.Slotted.{with_near, with_slot, wheel_in_order}
use Rattle.expiry_wheel.proofs.wheel.WheelDueIndex.plan.Given as given
use Rattle.expiry_wheel.proofs.wheel.WheelDueIndex.plan.Goals as goal

pub invariant_of-self : goal.invariant_of-self
invariant_of-self g c =
    let cmp = g.T.Ord.cmp in
    let i = c.self.inside in
    let w = c.self.invariant in
    either_way c.plan.result c.plan.ensures.ok c.plan.ensures.err
    (λ e. subst (λ near. IsWheel cmp i.now i.near_end near i.slots) (sym e)
    (wheel_near cmp i.now i.near_end i.near i.slots w
    (with_entry cmp i.near (c.args.at, c.args.item))
    (sorted-insert_key (entry_cmp cmp) (entries_total cmp g.met.T.Ord.total) i.near (
      c.args.at,
      c.args.item,
    ) w.ordered)
    (all-insert_key (entry_cmp cmp) (λ e. e.0 ≤ i.near_end) i.near (c.args.at, c.args.item) w.until
    c.if-at-self.true)))
    (λ e. subst (λ near. IsWheel cmp i.now i.near_end near i.slots) (sym e) w)

pub returns-then-at-self-clause-ok : goal.returns-then-at-self-clause-ok
returns-then-at-self-clause-ok g c =
    let cmp = g.T.Ord.cmp in
    let i = c.self.inside in
    on_ok c.plan.result c.plan.ensures.ok (λ e.
    ap (λ near. near ++ entries_in i.slots) e
    ∙ sym (with_near cmp i.now i.near_end i.near i.slots c.self.invariant c.args.at c.args.item
    c.if-at-self.true)
    ∙ ap (λ es. with_entry cmp es (c.args.at, c.args.item)) (c.self.view_is ∙ c.refine.ensures))

pub returns-then-at-self-clause-err : goal.returns-then-at-self-clause-err
returns-then-at-self-clause-err g c =
    on_err c.plan.result c.plan.ensures.err
    (λ e. ap (λ near. near ++ entries_in c.self.inside.slots) e ∙ c.self.view_is
    ∙ c.refine.ensures)

-- the slot that the code opens
slot_here : (g : given.Over) (c : goal.After-plan-else-at-self g)
    → Opened c.self.inside.slots c.slot_at-slot.result
slot_here g c = opened c.self.inside.slots c.slot_at-slot.result
    (omega (arith, c.slot_at-slot.ensures.within, c.self.invariant.complete))

-- the slots with the entry in its slot, as the code writes them and as the wheel's order does
put : (g : given.Over) (c : goal.After-plan-else-at-self g)
    → slice_set c.self.inside.slots c.slot_at-slot.result
    (with_entry g.T.Ord.cmp (slice_index_or c.self.inside.slots c.slot_at-slot.result [])
    (c.args.at, c.args.item)) ≡ slice_set c.self.inside.slots c.slot_at-slot.result
    (with_entry g.T.Ord.cmp (slot_here g c).here (c.args.at, c.args.item))
put g c = ap (λ s. slice_set c.self.inside.slots c.slot_at-slot.result
    (with_entry g.T.Ord.cmp s (c.args.at, c.args.item))) ((slot_here g c).read [])

pub invariant_of-self-else-at-self : goal.invariant_of-self-else-at-self
invariant_of-self-else-at-self g c =
    let cmp = g.T.Ord.cmp in
    let i = c.self.inside in
    let k = c.slot_at-slot.result in
    let w = c.self.invariant in
    let o : Opened i.slots k = slot_here g c in
    let kept : IsWheel cmp i.now i.near_end i.near
    (slice_set i.slots k (with_entry cmp o.here (c.args.at, c.args.item))) =
    wheel_written cmp i.now i.near_end i.near i.slots w k o
    (with_entry cmp o.here (c.args.at, c.args.item))
    (sorted-insert_key (entry_cmp cmp) (entries_total cmp g.met.T.Ord.total) o.here (
      c.args.at,
      c.args.item,
    ) (here_ordered cmp i.now i.near_end i.near i.slots w k o))
    (all-insert_key (entry_cmp cmp) (λ e. (i.near_end < e.0) × (slot_of 7 i.now e.0 ≡ k)) o.here
    (c.args.at, c.args.item) (here_slotted cmp i.now i.near_end i.near i.slots w k o)
    (c.if-at-self.false, sym c.slot_at-slot.ensures.slot)) in
    either_way c.plan-else-at-self.result c.plan-else-at-self.ensures.ok
    c.plan-else-at-self.ensures.err
    (λ e. subst (IsWheel cmp i.now i.near_end i.near) (sym (e ∙ put g c)) kept)
    (λ e. subst (IsWheel cmp i.now i.near_end i.near) (sym e) w)

pub returns-else-at-self-clause-ok : goal.returns-else-at-self-clause-ok
returns-else-at-self-clause-ok g c =
    let cmp = g.T.Ord.cmp in
    let i = c.self.inside in
    let k = c.slot_at-slot.result in
    on_ok c.plan-else-at-self.result c.plan-else-at-self.ensures.ok (λ e.
    ap (λ s. i.near ++ entries_in s) (e ∙ put g c)
    ∙ sym (with_slot cmp i.now i.near_end i.near i.slots c.self.invariant k (slot_here g c)
    c.args.at c.args.item c.if-at-self.false (sym c.slot_at-slot.ensures.slot))
    ∙ ap (λ es. with_entry cmp es (c.args.at, c.args.item)) (c.self.view_is ∙ c.refine.ensures))

pub returns-else-at-self-clause-err : goal.returns-else-at-self-clause-err
returns-else-at-self-clause-err g c =
    on_err c.plan-else-at-self.result c.plan-else-at-self.ensures.err
    (λ e. ap (λ s. c.self.inside.near ++ entries_in s) e ∙ c.self.view_is ∙ c.refine.ensures)

pub returns-then-at-self-clause-ordered : goal.returns-then-at-self-clause-ordered
returns-then-at-self-clause-ordered g c =
    let i = c.self.inside in subst (IsInOrder g.T.Ord.cmp) (c.self.view_is ∙ c.refine.ensures)
    (wheel_in_order g.T.Ord.cmp i.now i.near_end i.near i.slots c.self.invariant)

pub returns-else-at-self-clause-ordered : goal.returns-else-at-self-clause-ordered
returns-else-at-self-clause-ordered g c =
    let i = c.self.inside in subst (IsInOrder g.T.Ord.cmp) (c.self.view_is ∙ c.refine.ensures)
    (wheel_in_order g.T.Ord.cmp i.now i.near_end i.near i.slots c.self.invariant)
