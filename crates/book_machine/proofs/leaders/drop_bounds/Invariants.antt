use Rattle.book_machine.specs.Leading.{IsKeyDropped}
use Rattle.book_machine.proofs.leaders.drop_bounds.Given as goal

abbrev pub invariant-loop-list : goal.invariant-loop-list
invariant-loop-list l = IsKeyDropped l.ranks l.table l.key l.fn.leaders l.leaders
