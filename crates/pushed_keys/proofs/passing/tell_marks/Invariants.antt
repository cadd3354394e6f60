use Rattle.std.proofs.Common.{length, map}
use Rattle.pushed_keys.specs.Moves.{unmoved}
use Rattle.pushed_keys.specs.Packed.{in_lists}
use Rattle.pushed_keys.proofs.Left.{Done, IsDone}
use Rattle.pushed_keys.proofs.passing.tell_marks.Given as goal

-- what the marks that are left make of what is done, all marks made of what there was
abbrev pub invariant-loop-mark : goal.invariant-loop-mark
invariant-loop-mark l =
    (new : Done) → IsDone l.pushed l.turn l.done (map unmoved (in_lists l.left)) new
    → IsDone l.pushed l.turn l.fn.done (map unmoved l.part) new

abbrev pub decreases-loop-mark : goal.decreases-loop-mark
decreases-loop-mark l = length (in_lists l.left)
