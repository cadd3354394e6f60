use Rattle.std.proofs.Common.{◌≡◌}
use Rattle.book_machine.specs.Ranks.{best_after}
use Rattle.book_machine.proofs.ranking.offer_each.Given as goal

abbrev pub invariant-loop-key : goal.invariant-loop-key
invariant-loop-key l = record {
  keys : best_after l.best l.cols l.col l.t l.key-iterator
      ≡ best_after l.fn.best l.fn.cols l.fn.col l.fn.t l.fn.walk;
  room : l.best.room ≡ l.fn.best.room;
}
