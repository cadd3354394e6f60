use Rattle.std.proofs.Common.{◌≡◌, length}
use Rattle.book_machine.specs.Leading.{StaysLed}
use Rattle.book_machine.proofs.leaders.drop_ended.Given as goal

abbrev pub invariant-loop-table : goal.invariant-loop-table
invariant-loop-table l = record {
  count : length l.leaders ≡ length l.fn.leaders;
  led : StaysLed l.ranks l.rows.rows l.t l.fn.leaders l.rows.rows l.t l.leaders;
}
