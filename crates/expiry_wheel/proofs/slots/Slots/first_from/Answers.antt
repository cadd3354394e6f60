use Rattle.std.proofs.Common.{◌∙◌, ap, drop, subst, sym}
use Rattle.expiry_wheel.specs.Items.{first_item}
use Rattle.expiry_wheel.specs.Slots.{entries_in, IsFirstOccupied}
use Rattle.expiry_wheel.proofs.Slotted.{Opened, opened, first_at_slot}
use Rattle.expiry_wheel.proofs.slots.Slots.first_from.Goals as goal

pub returns : goal.returns
returns g c =
    let slots = c.self.inside.each.items in
    let k = c.in_ok-slot.slot in
    let f : IsFirstOccupied slots c.args.from k =
    subst (λ s. IsFirstOccupied s c.args.from k) (sym c.self.view_is) c.in_ok-slot.ensures in
    let o : Opened slots k = opened slots k f.within in
    c.after.ensures.next
    ∙ ap first_item (c.index.ensures ∙ o.read c.index.result.now)
    ∙ sym (first_at_slot slots c.args.from k o f)
    ∙ ap (λ s. first_item (entries_in (drop c.args.from s))) c.self.view_is
