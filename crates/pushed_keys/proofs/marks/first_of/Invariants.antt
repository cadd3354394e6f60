use Rattle.std.proofs.Common.{◌≡◌, length}
use Rattle.pushed_keys.specs.Packed.{in_parts}
use Rattle.pushed_keys.proofs.marks.first_of.Given as goal

-- the parts that were passed have no marks
abbrev pub invariant-loop-left : goal.invariant-loop-left
invariant-loop-left l = in_parts l.left ≡ in_parts l.parts

abbrev pub decreases-loop-left : goal.decreases-loop-left
decreases-loop-left l = length l.left
