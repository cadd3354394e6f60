use Rattle.std.proofs.Common.{◌≡◌, [], ap, subst, sym, ◌∙◌, add-one, drop, arith}
use Rattle.std.specs.Prelude.{Some}
use Rattle.std.specs.Option.{option_map}
use Rattle.expiry_wheel.specs.Entries.{IsInOrder, first_above}
use Rattle.expiry_wheel.specs.Items.{first_item}
use Rattle.expiry_wheel.specs.Lent.{lent_entry}
use Rattle.expiry_wheel.specs.Slots.{entries_in}
use Rattle.expiry_wheel.proofs.Slotted.{Opened, opened, wheel_in_order, above_near, above_near_none}
use Rattle.expiry_wheel.proofs.Slotted.{above_slot, above_slot_none}
use Rattle.expiry_wheel.proofs.wheel.WheelDueIndex.after.Goals as goal

pub returns-in-Some-after-clause-ordered : goal.returns-in-Some-after-clause-ordered
returns-in-Some-after-clause-ordered g c = let i = c.self.inside in
    subst (IsInOrder g.T.Ord.cmp) c.self.view_is (wheel_in_order g.T.Ord.cmp i.now i.near_end i.near
    i.slots c.self.invariant)

pub returns-in-None-clause-ordered : goal.returns-in-None-clause-ordered
returns-in-None-clause-ordered g c = let i = c.self.inside in
    subst (IsInOrder g.T.Ord.cmp) c.self.view_is (wheel_in_order g.T.Ord.cmp i.now i.near_end i.near
    i.slots c.self.invariant)

pub returns-in-Some-after-2-clause-ordered : goal.returns-in-Some-after-2-clause-ordered
returns-in-Some-after-2-clause-ordered g c = let i = c.self.inside in
    subst (IsInOrder g.T.Ord.cmp) c.self.view_is (wheel_in_order g.T.Ord.cmp i.now i.near_end i.near
    i.slots c.self.invariant)

pub returns-in-None-after-clause-ordered : goal.returns-in-None-after-clause-ordered
returns-in-None-after-clause-ordered g c = let i = c.self.inside in
    subst (IsInOrder g.T.Ord.cmp) c.self.view_is (wheel_in_order g.T.Ord.cmp i.now i.near_end i.near
    i.slots c.self.invariant)

pub returns-in-Some-after-3-clause-ordered : goal.returns-in-Some-after-3-clause-ordered
returns-in-Some-after-3-clause-ordered g c = let i = c.self.inside in
    subst (IsInOrder g.T.Ord.cmp) c.self.view_is (wheel_in_order g.T.Ord.cmp i.now i.near_end i.near
    i.slots c.self.invariant)

pub returns-in-None-after-2-clause-ordered : goal.returns-in-None-after-2-clause-ordered
returns-in-None-after-2-clause-ordered g c = let i = c.self.inside in
    subst (IsInOrder g.T.Ord.cmp) c.self.view_is (wheel_in_order g.T.Ord.cmp i.now i.near_end i.near
    i.slots c.self.invariant)

pub returns-in-Some-after-2-clause-next : goal.returns-in-Some-after-2-clause-next
returns-in-Some-after-2-clause-next g c =
    let cmp = g.T.Ord.cmp in
    let i = c.self.inside in
    let at = c.in-Some.at in
    let item = c.in-Some.item.now in
    sym (above_near cmp i.now i.near_end i.near i.slots c.self.invariant at item c.if-at-self.true
    (lent_entry c.in-Some-after-2.next)
    (sym c.after-then-at-self.ensures.next ∙ ap (option_map lent_entry) c.in-Some-after-2.is))
    ∙ ap (first_above cmp (Some (at, item))) c.self.view_is
    ∙ ap (λ given. first_above cmp (option_map lent_entry given) c.args.self.now) (sym c.in-Some.is)

pub returns-in-None-after-clause-next : goal.returns-in-None-after-clause-next
returns-in-None-after-clause-next g c =
    let cmp = g.T.Ord.cmp in
    let i = c.self.inside in
    let at = c.in-Some.at in
    let item = c.in-Some.item.now in
    c.first_from-in-None-after.ensures
    ∙ sym (above_near_none cmp i.now i.near_end i.near i.slots c.self.invariant
    at item c.if-at-self.true
    (sym c.after-then-at-self.ensures.next ∙ ap (option_map lent_entry) c.in-None-after.is))
    ∙ ap (first_above cmp (Some (at, item))) c.self.view_is
    ∙ ap (λ given. first_above cmp (option_map lent_entry given) c.args.self.now) (sym c.in-Some.is)

pub returns-in-Some-after-3-clause-next : goal.returns-in-Some-after-3-clause-next
returns-in-Some-after-3-clause-next g c =
    let cmp = g.T.Ord.cmp in
    let i = c.self.inside in
    let at = c.in-Some.at in
    let item = c.in-Some.item.now in
    let k = c.slot_at-slot.result in
    let o : Opened i.slots k = opened i.slots k (omega (
      arith,
      c.slot_at-slot.ensures.within,
      c.self.invariant.complete,
    )) in
    let held : c.slot.result.now ≡ o.here = c.slot.ensures ∙ o.read [] in
    sym (above_slot cmp i.now i.near_end i.near i.slots c.self.invariant k o
    at item c.if-at-self.false (sym c.slot_at-slot.ensures.slot)
    (lent_entry c.in-Some-after-3.next)
    (ap (first_above cmp (Some (at, item))) (sym held) ∙ sym c.after-2.ensures.next
    ∙ ap (option_map lent_entry) c.in-Some-after-3.is))
    ∙ ap (first_above cmp (Some (at, item))) c.self.view_is
    ∙ ap (λ given. first_above cmp (option_map lent_entry given) c.args.self.now) (sym c.in-Some.is)

pub returns-in-None-after-2-clause-next : goal.returns-in-None-after-2-clause-next
returns-in-None-after-2-clause-next g c =
    let cmp = g.T.Ord.cmp in
    let i = c.self.inside in
    let at = c.in-Some.at in
    let item = c.in-Some.item.now in
    let k = c.slot_at-slot.result in
    let o : Opened i.slots k = opened i.slots k (omega (
      arith,
      c.slot_at-slot.ensures.within,
      c.self.invariant.complete,
    )) in
    let held : c.slot.result.now ≡ o.here = c.slot.ensures ∙ o.read [] in
    c.first_from-in-None-after-2.ensures
    ∙ ap (λ n. first_item (entries_in (drop n i.slots))) (add-one k)
    ∙ ap (λ l. first_item (entries_in l)) o.dropped
    ∙ sym (above_slot_none cmp i.now i.near_end i.near i.slots c.self.invariant k o
    at item c.if-at-self.false (sym c.slot_at-slot.ensures.slot)
    (ap (first_above cmp (Some (at, item))) (sym held) ∙ sym c.after-2.ensures.next
    ∙ ap (option_map lent_entry) c.in-None-after-2.is))
    ∙ ap (first_above cmp (Some (at, item))) c.self.view_is
    ∙ ap (λ given. first_above cmp (option_map lent_entry given) c.args.self.now) (sym c.in-Some.is)
