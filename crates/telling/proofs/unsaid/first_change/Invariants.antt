use Rattle.std.proofs.Common.{◌-◌, length}
use Rattle.telling.specs.Down.{ArePast}
use Rattle.telling.proofs.unsaid.first_change.Given as goal

-- nothing is left of the tables so far
abbrev pub invariant-loop-at : goal.invariant-loop-at
invariant-loop-at l = ArePast l.place l.at l.tables

abbrev pub decreases-loop-at : goal.decreases-loop-at
decreases-loop-at l = length l.tables - l.at
