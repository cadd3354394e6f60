use Rattle.std.proofs.Common.{◌≡◌}
use Rattle.hub.proofs.desk.seat_readers.Given as goal

-- the press stays as it is
abbrev pub invariant-places : goal.invariant-places
invariant-places g l = l.press ≡ l.initial.press
