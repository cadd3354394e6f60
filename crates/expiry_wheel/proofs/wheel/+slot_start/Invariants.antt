use Rattle.expiry_wheel.proofs.wheel.+slot_start.Given as goal

abbrev pub decreases-slot_start : goal.decreases-slot_start
decreases-slot_start l = l.levels
