use Rattle.std.proofs.Common.{length}
use Rattle.pushed_keys.specs.Packed.{marks_of}
use Rattle.pushed_keys.specs.Passed.{ArePassed}
use Rattle.pushed_keys.proofs.passing.pass_parts.Given as goal

-- the parts so far are told
abbrev pub invariant-loop-part : goal.invariant-loop-part
invariant-loop-part l =
    ArePassed l.pushed l.turn l.moves (marks_of l.marks) (marks_of l.left) l.fn.done l.done

abbrev pub decreases-loop-part : goal.decreases-loop-part
decreases-loop-part l = length l.left.parts.now
