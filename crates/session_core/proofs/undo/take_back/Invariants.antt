use Rattle.std.proofs.Common.{◌≡◌}
use Rattle.session_core.specs.Undo.{undone}
use Rattle.session_core.proofs.undo.take_back.Given as goal

abbrev pub invariant-loop-change : goal.invariant-loop-change
invariant-loop-change l =
    undone l.left.items l.entries.items ≡ undone l.fn.changes.items l.fn.entries.items

abbrev pub decreases-loop-change : goal.decreases-loop-change
decreases-loop-change l = goal.left-loop-change l
