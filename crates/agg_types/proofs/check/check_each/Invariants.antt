use Rattle.std.proofs.Common.{◌≡◌, [], take, drop}
use Rattle.agg_types.specs.Check.{each}
use Rattle.agg_types.proofs.check.check_each.Given as goal

abbrev pub invariant-loop-i : goal.invariant-loop-i
invariant-loop-i g l = (l.listed ≡ l.entries)
    × (each (g.T.Checked.faults l.config) [] l.listed
    ≡ each (g.T.Checked.faults l.config) (take l.i l.listed) (drop l.i l.listed))
