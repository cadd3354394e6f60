use Rattle.std.proofs.Common.{◌≡◌, drop, length}
use Rattle.book_machine.specs.Leading.{StaysLed}
use Rattle.book_rows.proofs.Reading.{rest_left}
use Rattle.book_machine.proofs.clears.clear_keys.Given as goal

abbrev pub invariant-loop-key : goal.invariant-loop-key
invariant-loop-key l = record {
  rows : rest_left l.table (drop l.key-index l.keys) l.store
      ≡ rest_left l.table l.keys l.fn.store;
  count : length l.leaders ≡ length l.fn.leaders;
  led : StaysLed l.ranks l.fn.store.rows l.t l.fn.leaders l.store.rows l.t l.leaders;
}
