use Rattle.std.proofs.Common.{◌≡◌, ◌+◌, ◌*◌, ◌≤◌}
use Rattle.peer_rows.specs.Few.{total_width}
use Rattle.peer_rows.proofs.few.total.Given as goal

-- what is added up so far, and the cells that are left
abbrev pub invariant-loop-left : goal.invariant-loop-left
invariant-loop-left l =
    (l.used + total_width l.left l.digits ≡ total_width l.len l.kinds)
    × (l.len ≤ l.used + l.left)
    × (l.used + 5 * l.left ≤ 5 * l.len)

abbrev pub decreases-loop-left : goal.decreases-loop-left
decreases-loop-left l = l.left
