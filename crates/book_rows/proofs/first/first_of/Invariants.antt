use Rattle.std.proofs.Common.{◌≡◌}
use Rattle.std.specs.Prelude.{filter}
use Rattle.std.specs.Option.{option_copied}
use Rattle.book_rows.specs.First.{AreHeld, is_sought}
use Rattle.book_rows.proofs.first.first_of.Given as goal

-- what is held of the keys that are sought
abbrev pub invariant-loop-key : goal.invariant-loop-key
invariant-loop-key l = record {
  held : AreHeld l.sought.most (filter (is_sought l.cols l.t l.sought) l.fn.walk)
      l.first.keys.items (option_copied l.first.last)
      (filter (is_sought l.cols l.t l.sought) l.key-iterator);
  most : l.first.most ≡ l.sought.most;
}
