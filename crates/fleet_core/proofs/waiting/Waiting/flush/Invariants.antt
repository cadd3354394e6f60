use Rattle.std.proofs.Common.{◌≡◌, ◌+◌, length}
use Rattle.fleet_core.specs.Waiting.{AreHandedOver}
use Rattle.fleet_core.proofs.waiting.Waiting.flush.Given as goal

-- the book has taken the first of what waited, and the others are as many as turns are left
abbrev pub invariant-loop : goal.invariant-loop
invariant-loop l = record {
  handed : AreHandedOver l.fn.self l.fn.book l.self l.book;
  left : length
      l.self + l.counter ≡ l.end;
}
