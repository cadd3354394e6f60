use Rattle.std.proofs.Common.{◌≡◌, ℕ, [], length}
use Rattle.ranked.specs.Leaders.{bounds_of}
use Rattle.ranked.proofs.leaders.Leaders.new.Given as goal

abbrev pub invariant-loop : goal.invariant-loop
invariant-loop l = (length l.lists.items ≡ l.counter)
    × ((list : ℕ) → bounds_of l.lists.items list ≡ [])
