use Rattle.expiry_wheel.proofs.Slotted.{no_entries}
use Rattle.expiry_wheel.proofs.slots.Slots.new.Goals as goal

pub returns-clause-none : goal.returns-clause-none
returns-clause-none g c = no_entries c.loop.each.items c.loop.invariant.none
