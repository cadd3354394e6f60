use Rattle.std.proofs.Common.{◌≡◌, take}
use Rattle.std.specs.Prelude.{map}
use Rattle.fleet_sums.proofs.Placing.{new_table}
use Rattle.fleet_sums.proofs.sums.Sums.new.Given as goal

-- a table without rows for each shape so far
abbrev pub invariant-loop-shape : goal.invariant-loop-shape
invariant-loop-shape l = l.empty.items ≡ map new_table (take l.shape-index l.tables)
