use Rattle.std.proofs.Common.{length, map}
use Rattle.pushed_keys.specs.Moves.{unmoved}
use Rattle.pushed_keys.specs.Packed.{marks_of}
use Rattle.pushed_keys.specs.Turns.{AreQuiet}
use Rattle.pushed_keys.proofs.idle.is_idle.Given as goal

-- if the keys that are left are quiet, all are
abbrev pub invariant-loop-part : goal.invariant-loop-part
invariant-loop-part l =
    AreQuiet l.pushed l.turn (map unmoved (marks_of l.left)) (marks_of l.left)
    → AreQuiet l.pushed l.turn (map unmoved (marks_of l.marks)) (marks_of l.marks)

abbrev pub decreases-loop-part : goal.decreases-loop-part
decreases-loop-part l = length l.left.parts.now
