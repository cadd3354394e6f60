use Rattle.std.proofs.Common.{◌≡◌, ◌+◌, ◌-◌, ◌≤◌, ◌^◌, length}
use Rattle.std.specs.Prelude.{min}
use Rattle.pushed_keys.specs.Packed.{in_parts}
use Rattle.pushed_keys.proofs.marks.Packing.finish.Given as goal

-- the marks that were counted and those of the parts that are left are all
abbrev pub invariant-loop-left : goal.invariant-loop-left
invariant-loop-left l =
    (min (l.len + length (in_parts l.left)) (2 ^ 64 - 1)
    ≡ min (length (in_parts l.initial.left)) (2 ^ 64 - 1))
    × (l.len ≤ 2 ^ 64 - 1)

abbrev pub decreases-loop-left : goal.decreases-loop-left
decreases-loop-left l = length l.left
