use Rattle.std.proofs.Common.{drop, map, List, ℕ}
use Rattle.pushed_keys.proofs.Taken.{AreTakenDown}
use Rattle.pushed_keys.proofs.turning.tell_all.Given as goal

-- the tables so far are taken down
abbrev pub invariant-loop-before : goal.invariant-loop-before
invariant-loop-before l =
    let sets : List (List (List ℕ)) = map (λ set. map (λ key. key.now) set.items) l.sets in
    AreTakenDown l.turn sets l.told l.pushed l.before (drop l.before l.pushed) l.unsaid.items
    l.tables.items
