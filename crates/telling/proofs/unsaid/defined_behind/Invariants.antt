use Rattle.std.proofs.Common.{◌≡◌, drop}
use Rattle.telling.specs.Down.{defined_behind}
use Rattle.telling.proofs.unsaid.defined_behind.Given as goal

-- the table that is defined last so far, and behind all
abbrev pub invariant-loop-before : goal.invariant-loop-before
invariant-loop-before l =
    defined_behind l.last l.before (drop l.before l.tables) ≡ defined_behind l.defined 0 l.tables
