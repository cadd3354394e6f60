use Rattle.std.proofs.Common.{◌≡◌, ◌++◌, length, map}
use Rattle.pushed_keys.specs.Packed.{marks_of}
use Rattle.telling.specs.Telling.{keys_told}
use Rattle.telling.proofs.teller.keys_told.Given as goal

-- the keys so far, and those of the marks that are left
abbrev pub invariant-loop-mark : goal.invariant-loop-mark
invariant-loop-mark l =
    map (λ key. key.now) l.keys.items ++ keys_told l.table l.now (marks_of l.left)
    ≡ keys_told l.table l.now (marks_of l.fn.marks)

abbrev pub decreases-loop-mark : goal.decreases-loop-mark
decreases-loop-mark l = length (marks_of l.left)
