use Rattle.std.proofs.Common.{◌≡◌, ◌≤◌, ◌+◌, ◌-◌, length}
use Rattle.fleet_model.specs.Machine.{session_of}
use Rattle.book.specs.Flips.{TellsAllIfKnown, part_of}
use Rattle.book.specs.Verdicts.{IsBook}
use Rattle.book_machine.specs.Uses.{IsUseOf}
use Rattle.book.specs.Runs.{IsPartApplied}
use Rattle.book_machine.specs.Turns.{counted_to}
use Rattle.book.proofs.runs.take_each.Given as goal

-- the updates up to here have been applied, but for the count of their seat
abbrev pub invariant-updates : goal.invariant-updates
invariant-updates l = record {
  onwards : l.fn.from ≤ l.place;
  within : l.place ≤ length l.whats;
  session : l.turn.session ≡ session_of l.machine l.turn.peer;
  seats : l.machine.seats ≡ l.fn.machine.seats;
  found : IsUseOf l.machine.config l.table_use;
  book : IsBook l.machine l.verdicts.standing;
  applied : IsPartApplied l.turn.seat l.first l.whats l.fn.from l.place l.fn.machine
      (counted_to l.machine l.turn.seat (l.first + l.place));
  flips : TellsAllIfKnown l.fn.machine (part_of l.turn.seat l.first l.whats l.fn.from l.place)
      l.fn.flips l.flips;
}

abbrev pub decreases-updates : goal.decreases-updates
decreases-updates l = length l.whats - l.place
