use Rattle.std.proofs.Common.{◌≡◌, ◌<◌, ◌≤◌, [], ◌++◌, ap, sym, ◌∙◌, subst, arith}
use Rattle.std.specs.Prelude.{slice_set}
use Rattle.std.specs.BTreeMap.{is_at}
use Rattle.expiry_wheel.specs.Entries.{entry_cmp, has_entry, without_entry, IsInOrder}
use Rattle.expiry_wheel.specs.Slots.{slot_of, entries_in, IsWheel}
use Rattle.expiry_wheel.proofs.Slotted.{Opened, opened, all-remove_key, sorted-remove_key}
use Rattle.expiry_wheel.proofs.Slotted.{wheel_near, wheel_written, here_ordered, here_slotted}
use Rattle.expiry_wheel.proofs.Slotted.{has_near, has_slot, without_near, without_slot}
use Rattle.expiry_wheel.proofs.Slotted.{wheel_in_order}
use Rattle.expiry_wheel.proofs.wheel.WheelDueIndex.cancel.Given as given
use Rattle.expiry_wheel.proofs.wheel.WheelDueIndex.cancel.Goals as goal

pub invariant_of-self : goal.invariant_of-self
invariant_of-self g c =
    let cmp = g.T.Ord.cmp in
    let i = c.self.inside in
    let w = c.self.invariant in
    let test = is_at (entry_cmp cmp (c.args.at, c.args.item.now)) in
    subst (λ near. IsWheel cmp i.now i.near_end near i.slots) (sym c.cancel.ensures.removed)
    (wheel_near cmp i.now i.near_end i.near i.slots w (without_entry cmp i.near (
      c.args.at,
      c.args.item.now,
    ))
    (sorted-remove_key test (entry_cmp cmp) i.near w.ordered)
    (all-remove_key test (λ e. e.0 ≤ i.near_end) i.near w.until))

pub returns-then-at-self-clause-found : goal.returns-then-at-self-clause-found
returns-then-at-self-clause-found g c =
    let cmp = g.T.Ord.cmp in
    let i = c.self.inside in
    c.cancel.ensures.found
    ∙ sym (has_near cmp i.now i.near_end i.near i.slots c.self.invariant c.args.at c.args.item.now
    c.if-at-self.true)
    ∙ ap (λ es. has_entry cmp es (c.args.at, c.args.item.now)) c.self.view_is

pub returns-then-at-self-clause-removed : goal.returns-then-at-self-clause-removed
returns-then-at-self-clause-removed g c =
    let cmp = g.T.Ord.cmp in
    let i = c.self.inside in
    ap (λ near. near ++ entries_in i.slots) c.cancel.ensures.removed
    ∙ sym (without_near cmp i.now i.near_end i.near i.slots c.self.invariant c.args.at
    c.args.item.now c.if-at-self.true)
    ∙ ap (λ es. without_entry cmp es (c.args.at, c.args.item.now)) c.self.view_is

-- the slot that the code opens, and the slots that it leaves
slot_here : (g : given.Over) (c : goal.After-cancel-else-at-self g)
    → Opened c.self.inside.slots c.slot_at-slot.result
slot_here g c = opened c.self.inside.slots c.slot_at-slot.result
    (omega (arith, c.slot_at-slot.ensures.within, c.self.invariant.complete))

left : (g : given.Over) (c : goal.After-cancel-else-at-self g) → c.cancel-else-at-self.new.self
    ≡ slice_set c.self.inside.slots c.slot_at-slot.result
    (without_entry g.T.Ord.cmp (slot_here g c).here (c.args.at, c.args.item.now))
left g c = c.cancel-else-at-self.ensures.removed
    ∙ ap (λ s. slice_set c.self.inside.slots c.slot_at-slot.result
    (without_entry g.T.Ord.cmp s (c.args.at, c.args.item.now))) ((slot_here g c).read [])

pub invariant_of-self-else-at-self : goal.invariant_of-self-else-at-self
invariant_of-self-else-at-self g c =
    let cmp = g.T.Ord.cmp in
    let i = c.self.inside in
    let k = c.slot_at-slot.result in
    let w = c.self.invariant in
    let o : Opened i.slots k = slot_here g c in
    let test = is_at (entry_cmp cmp (c.args.at, c.args.item.now)) in
    subst (IsWheel cmp i.now i.near_end i.near) (sym (left g c))
    (wheel_written cmp i.now i.near_end i.near i.slots w k o (without_entry cmp o.here (
      c.args.at,
      c.args.item.now,
    ))
    (sorted-remove_key test (entry_cmp cmp) o.here
    (here_ordered cmp i.now i.near_end i.near i.slots w k o))
    (all-remove_key test (λ e. (i.near_end < e.0) × (slot_of 7 i.now e.0 ≡ k)) o.here
    (here_slotted cmp i.now i.near_end i.near i.slots w k o)))

pub returns-else-at-self-clause-found : goal.returns-else-at-self-clause-found
returns-else-at-self-clause-found g c =
    let cmp = g.T.Ord.cmp in
    let i = c.self.inside in
    c.cancel-else-at-self.ensures.found
    ∙ ap (λ s. has_entry cmp s (c.args.at, c.args.item.now)) ((slot_here g c).read [])
    ∙ sym (has_slot cmp i.now i.near_end i.near i.slots c.self.invariant c.slot_at-slot.result
    (slot_here g c) c.args.at c.args.item.now c.if-at-self.false
    (sym c.slot_at-slot.ensures.slot))
    ∙ ap (λ es. has_entry cmp es (c.args.at, c.args.item.now)) c.self.view_is

pub returns-else-at-self-clause-removed : goal.returns-else-at-self-clause-removed
returns-else-at-self-clause-removed g c =
    let cmp = g.T.Ord.cmp in
    let i = c.self.inside in
    ap (λ s. i.near ++ entries_in s) (left g c)
    ∙ sym (without_slot cmp i.now i.near_end i.near i.slots c.self.invariant c.slot_at-slot.result
    (slot_here g c) c.args.at c.args.item.now c.if-at-self.false
    (sym c.slot_at-slot.ensures.slot))
    ∙ ap (λ es. without_entry cmp es (c.args.at, c.args.item.now)) c.self.view_is

pub returns-then-at-self-clause-ordered : goal.returns-then-at-self-clause-ordered
returns-then-at-self-clause-ordered g c =
    let i = c.self.inside in subst (IsInOrder g.T.Ord.cmp) c.self.view_is
    (wheel_in_order g.T.Ord.cmp i.now i.near_end i.near i.slots c.self.invariant)

pub returns-else-at-self-clause-ordered : goal.returns-else-at-self-clause-ordered
returns-else-at-self-clause-ordered g c =
    let i = c.self.inside in subst (IsInOrder g.T.Ord.cmp) c.self.view_is
    (wheel_in_order g.T.Ord.cmp i.now i.near_end i.near i.slots c.self.invariant)
