use Rattle.book_machine.specs.Leading.{IsTableDropped}
use Rattle.book_machine.proofs.leaders.drop_table_bounds.Given as goal

abbrev pub invariant-loop-list : goal.invariant-loop-list
invariant-loop-list l = IsTableDropped l.ranks l.table l.fn.leaders l.leaders
