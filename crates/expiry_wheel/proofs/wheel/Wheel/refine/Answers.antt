use Rattle.std.proofs.Common.{◌≡◌, ◌-◌, ◌<◌, ◌≤◌, [], ◌∷◌, ◌++◌, ap, sym, ◌∙◌, subst, arith}
use Rattle.std.proofs.Common.{append_assoc}
use Rattle.std.specs.Prelude.{slice_set}
use Rattle.std.specs.List.{AllByRecursion}
use Rattle.expiry_wheel.specs.Entries.{entry_cmp, IsInOrder}
use Rattle.expiry_wheel.specs.Slots.{slot_of, entries_in, IsWheel}
use Rattle.expiry_wheel.proofs.Lists.{all-imply, all-right, sorted-left, sorted-right}
use Rattle.expiry_wheel.proofs.Slotted.{Opened, opened, all_both, entries_in-append, length_written}
use Rattle.expiry_wheel.proofs.Slotted.{slotted_other, none_before_end}
use Rattle.expiry_wheel.proofs.Turning.{start_after, slot_from_start}
use Rattle.expiry_wheel.proofs.wheel.Wheel.refine.Given as given
use Rattle.expiry_wheel.proofs.wheel.Wheel.refine.Goals as goal

pub overflow_sub-self : goal.overflow_sub-self
overflow_sub-self g c = omega (
  arith,
  c.slot_start-start.ensures.start,
  start_after 7 c.self.inside.now c.self.inside.near_end (omega arith),
)

-- the slot that the code fills, which is empty
slot_here : (g : given.Over) (c : goal.After-drop-part g)
    → Opened c.self.inside.slots c.slot_at-slot.result
slot_here g c = opened c.self.inside.slots c.slot_at-slot.result
    (omega (arith, c.slot_at-slot.ensures.within, c.self.invariant.complete))

none_here : (g : given.Over) (c : goal.After-drop-part g) → (slot_here g c).here ≡ []
none_here g c = sym (c.slot.ensures ∙ (slot_here g c).read [])
    ∙ c.is_empty.ensures.0 c.if-not-is_empty.false

pub invariant_of-self : goal.invariant_of-self
invariant_of-self g c =
    let cmp = g.T.Ord.cmp in
    let i = c.self.inside in
    let w = c.self.invariant in
    let k = c.slot_at-slot.result in
    let o : Opened i.slots k = slot_here g c in
    let start = c.slot_start-start.result in
    let part = c.in-Ok.part in
    let near = c.split_off.new.self in
    let split : i.near ≡ near ++ part = c.in-Ok.ensures.parts in
    let from_now : i.now < start = omega (
      arith,
      c.slot_start-start.ensures.start,
      start_after 7 i.now i.near_end (omega arith),
    ) in
    let sorted : IsInOrder cmp (near ++ part) = subst (IsInOrder cmp) split w.ordered in
    let bounded : AllByRecursion (λ e. e.0 ≤ i.near_end) part =
    all-right (λ e. e.0 ≤ i.near_end) near part (subst (AllByRecursion (λ e. e.0 ≤ i.near_end))
    split w.until) in
    let slotted : AllByRecursion (λ e. (start - 1 < e.0) × (slot_of 7 i.now e.0 ≡ k)) part =
    all_both (λ e. start ≤ e.0) (λ e. e.0 ≤ i.near_end) (λ e. (start - 1 < e.0)
    × (slot_of 7 i.now e.0 ≡ k))
    (λ e p q. (
      omega (arith, p),
      slot_from_start 7 i.now i.near_end e.0 (omega arith)
          (omega (arith, p, c.slot_start-start.ensures.start)) q ∙ sym c.slot_at-slot.ensures.slot,
    ))
    part c.in-Ok.ensures.after bounded in
    let wheel : IsWheel cmp i.now (start - 1) near (slice_set i.slots k part) = record {
      counted = omega arith;
      complete = length_written cmp i.now i.near_end i.near i.slots w k o part ∙ w.complete;
      ordered = sorted-left (entry_cmp cmp) near part sorted;
      until = all-imply (λ e. e.0 < start) (λ e. e.0 ≤ start - 1) (λ e p. omega (arith, p)) near
          c.in-Ok.ensures.before;
      slotted = slotted_other cmp i.now i.near_end i.near i.slots w k o (start - 1)
          (omega (arith, c.slot_start-start.ensures.up_to)) part
          (sorted-right (entry_cmp cmp) near part sorted) slotted;
    } in
    subst (IsWheel cmp i.now (start - 1) near) (sym c.swap.ensures.put) wheel

pub returns-in-Ok : goal.returns-in-Ok
returns-in-Ok g c =
    let cmp = g.T.Ord.cmp in
    let i = c.self.inside in
    let w = c.self.invariant in
    let k = c.slot_at-slot.result in
    let o : Opened i.slots k = slot_here g c in
    let part = c.in-Ok.part in
    let near = c.split_off.new.self in
    let none : entries_in o.before ≡ [] = none_before_end cmp i.now i.near_end i.near i.slots w k o
    (sym c.slot_at-slot.ensures.slot) in
    ap (λ l. near ++ l) (ap entries_in (c.swap.ensures.put ∙ o.written part)
    ∙ entries_in-append cmp i.now i.near_end o.before (part ∷ o.after)
    ∙ ap (λ l. l ++ (part ++ entries_in o.after)) none)
    ∙ sym (append_assoc near part (entries_in o.after))
    ∙ ap (λ l. l ++ entries_in o.after) (sym c.in-Ok.ensures.parts)
    ∙ ap (λ l. i.near ++ l) (sym (ap entries_in o.is
    ∙ entries_in-append cmp i.now i.near_end o.before (o.here ∷ o.after)
    ∙ ap (λ l. l ++ (o.here ++ entries_in o.after)) none
    ∙ ap (λ l. l ++ entries_in o.after) (none_here g c)))
    ∙ c.self.view_is
