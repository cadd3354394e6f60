use Rattle.std.proofs.Common.{◌≡◌, ◌<◌, length}
use Rattle.std.specs.List.{AllByRecursion}
use Rattle.standing_filters.proofs.touching.make_copies.Given as goal

abbrev pub invariant-loop-more : goal.invariant-loop-more
invariant-loop-more l = record {
  all : AllByRecursion (λ copy. copy ≡ l.key) l.copies.items;
  count : length l.copies.items ≡ l._more;
  some : 0 < length l.copies.items;
}
