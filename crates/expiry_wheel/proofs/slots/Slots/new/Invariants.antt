use Rattle.expiry_wheel.proofs.Slotted.{AreEmpty}
use Rattle.expiry_wheel.proofs.slots.Slots.new.Given as goal

-- as many slots as turns, and all empty
abbrev pub invariant-loop : goal.invariant-loop
invariant-loop g l = AreEmpty l.each.items l.counter
