use Rattle.std.proofs.Common.{◌≡◌, ◌++◌, drop, map}
use Rattle.fleet_core.specs.Telling.{sets_of}
use Rattle.fleet_core.proofs.sets.sets_of.Given as goal

-- the sets so far, and those of the tables that are left
abbrev pub invariant-loop-table : goal.invariant-loop-table
invariant-loop-table l =
    map (λ set. map (λ key. key.now) set.items) l.sets.items
    ++ sets_of l.book (drop l.table-index l.pushed) ≡ sets_of l.book l.pushed
