use Rattle.std.proofs.Common.{◌<◌, length, subst, sym}
use Rattle.expiry_wheel.specs.Entries.{entry_cmp}
use Rattle.expiry_wheel.proofs.Lists.{some-insert_key}
use Rattle.expiry_wheel.proofs.Slotted.{marked_there}
use Rattle.expiry_wheel.proofs.slots.Slots.plan.Goals as goal

pub invariant_of-self-2 : goal.invariant_of-self-2
invariant_of-self-2 g c =
    marked_there c.self.inside.marks.words c.set.new.self.words c.self.inside.each.items c.args.slot
    c.plan.new.self c.self.invariant c.requires c.set.ensures.here c.set.ensures.others
    (subst (λ l. 0 < length l) (sym c.in_ok-plan.ensures.ok)
    (some-insert_key (entry_cmp g.T.Ord.cmp) c.index_mut.result.now (c.args.at, c.args.item)))
