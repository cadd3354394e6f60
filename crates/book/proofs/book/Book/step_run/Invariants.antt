use Rattle.std.proofs.Common.{◌≤◌, ◌-◌, length}
use Rattle.book.specs.Flips.{TellsAllIfKnown, part_of}
use Rattle.book.specs.Runs.{IsPartApplied}
use Rattle.book.proofs.book.Book.step_run.Given as goal

-- the events up to here have been applied
abbrev pub invariant-places : goal.invariant-places
invariant-places l = record {
  onwards : l.fn.from ≤ l.done;
  within : l.done ≤ length l.posted;
  applied : IsPartApplied l.seat l.first l.posted l.fn.from l.done l.fn.self l.self;
  flips : TellsAllIfKnown l.fn.self (part_of l.seat l.first l.posted l.fn.from l.done) l.fn.flips
      l.flips;
}

abbrev pub decreases-places : goal.decreases-places
decreases-places l = length l.posted - l.done
