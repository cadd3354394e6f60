use Rattle.std.proofs.Common.{drop, map, List, ℕ}
use Rattle.pushed_keys.specs.Moves.{AreMovedTo}
use Rattle.pushed_keys.proofs.Taken.{AreTakenDown}
use Rattle.pushed_keys.proofs.saying.tell_all_moved.Given as goal

-- the tables so far are taken down
abbrev pub invariant-loop-before : goal.invariant-loop-before
invariant-loop-before l =
    (sets : List (List (List ℕ)))
    → AreMovedTo l.pushed (map (λ ms. ms.items) l.moves) l.told sets
    → AreTakenDown l.turn sets l.told l.pushed l.before (drop l.before l.pushed) l.unsaid.items
    l.tables.items
