use Rattle.std.proofs.Common.{drop, map, List, ℕ}
use Rattle.pushed_keys.specs.Moves.{AreMovedTo}
use Rattle.pushed_keys.proofs.Quiet.{AllQuiet}
use Rattle.pushed_keys.proofs.idle.are_idle.Given as goal

-- if the tables that are left are quiet, all are
abbrev pub invariant-loop-before : goal.invariant-loop-before
invariant-loop-before l = (sets : List (List (List ℕ)))
    → AreMovedTo l.pushed (map (λ ms. ms.items) l.moves) l.told sets
    → AllQuiet l.turn sets l.told l.before (drop l.before l.pushed)
    → AllQuiet l.turn sets l.told 0 l.pushed
