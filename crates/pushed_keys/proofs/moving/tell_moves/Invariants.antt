use Rattle.std.proofs.Common.{[], ◌+◌, length}
use Rattle.pushed_keys.specs.Moves.{AreInOrder, marked}
use Rattle.pushed_keys.specs.Packed.{marks_of}
use Rattle.pushed_keys.proofs.Through.{AreLeft}
use Rattle.pushed_keys.proofs.moving.tell_moves.Given as goal

-- what is left makes of what is done what all made of nothing
abbrev pub invariant-loop-standing : goal.invariant-loop-standing
invariant-loop-standing l =
    AreInOrder (marked (marks_of l.fn.marks)) → AreLeft l.pushed l.turn l.left.moves.now
    (marks_of l.left.marks) l.done l.fn.moves (marks_of l.fn.marks)
    (record { changes = []; kept = [] })

abbrev pub decreases-loop-standing : goal.decreases-loop-standing
decreases-loop-standing l = length l.left.moves.now + length (marks_of l.left.marks)
