use Rattle.std.proofs.Common.{◌≡◌, ◌≤◌, drop, length}
use Rattle.set_changes.specs.Numbered.{since}
use Rattle.set_changes.proofs.log.Log.first_behind.Given as goal

abbrev pub invariant-loop-place : goal.invariant-loop-place
invariant-loop-place l = record {
  within : l.place ≤ length l.self.changes;
  behind : since l.number (drop l.place l.self.changes) ≡ drop l.place l.self.changes;
}

abbrev pub decreases-loop-place : goal.decreases-loop-place
decreases-loop-place l = l.place
