use Rattle.std.proofs.Common.{drop, map, List, ℕ}
use Rattle.pushed_keys.proofs.Quiet.{AllQuiet}
use Rattle.pushed_keys.proofs.turning.are_quiet.Given as goal

-- if the tables that are left are quiet, all are
abbrev pub invariant-loop-before : goal.invariant-loop-before
invariant-loop-before l =
    let sets : List (List (List ℕ)) = map (λ set. map (λ key. key.now) set.items) l.sets in
    AllQuiet l.turn sets l.told l.before (drop l.before l.pushed)
    → AllQuiet l.turn sets l.told 0 l.pushed
