use Rattle.std.proofs.Common.{◌≡◌, length}
use Rattle.pushed_keys.specs.Packed.{in_lists}
use Rattle.pushed_keys.proofs.Through.{AreRenewed}
use Rattle.pushed_keys.proofs.passing.tell_part.Given as goal

-- the marks so far are told, and the marks that are kept are as they were
abbrev pub invariant-loop-mark : goal.invariant-loop-mark
invariant-loop-mark l = record {
  told : AreRenewed l.pushed l.turn l.part (in_lists l.left) l.puts.items l.least
      l.fn.done.changes l.done.changes;
  kept : l.done.kept ≡ l.fn.done.kept;
}

abbrev pub decreases-loop-mark : goal.decreases-loop-mark
decreases-loop-mark l = length (in_lists l.left)
