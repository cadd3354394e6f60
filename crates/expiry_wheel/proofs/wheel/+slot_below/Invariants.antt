use Rattle.expiry_wheel.proofs.wheel.+slot_below.Given as goal

abbrev pub decreases-slot_below : goal.decreases-slot_below
decreases-slot_below l = l.levels
