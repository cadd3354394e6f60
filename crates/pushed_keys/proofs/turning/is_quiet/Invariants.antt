use Rattle.std.proofs.Common.{length, map}
use Rattle.pushed_keys.specs.Packed.{marks_of}
use Rattle.pushed_keys.specs.Stands.{stands}
use Rattle.pushed_keys.specs.Turns.{AreQuiet}
use Rattle.pushed_keys.proofs.turning.is_quiet.Given as goal

-- if the keys that are left are quiet, all are
abbrev pub invariant-loop-behind : goal.invariant-loop-behind
invariant-loop-behind l = AreQuiet l.pushed l.turn
    (stands (map (λ key. key.now) l.left.0.now) (marks_of l.left.1)) (marks_of l.left.1)
    → AreQuiet l.pushed l.turn (stands (map (λ key. key.now) l.fn.set) (marks_of l.fn.marks))
    (marks_of l.fn.marks)

abbrev pub decreases-loop-behind : goal.decreases-loop-behind
decreases-loop-behind l = length (marks_of l.left.1)
