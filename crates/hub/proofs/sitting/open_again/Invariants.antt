use Rattle.std.proofs.Common.{◌≡◌, false, take}
use Rattle.std.specs.List.{list_any}
use Rattle.fleet_model.specs.Sessions.{opens}
use Rattle.hub.proofs.sitting.open_again.Given as goal

abbrev pub invariant-loop-i : goal.invariant-loop-i
invariant-loop-i l = list_any (opens l.peer) (take l.i l.whats) ≡ false
