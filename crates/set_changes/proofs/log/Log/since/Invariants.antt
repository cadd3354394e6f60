use Rattle.std.proofs.Common.{◌≡◌, ◌≤◌, ◌++◌, drop, length, map}
use Rattle.set_changes.specs.Numbered.{since}
use Rattle.set_changes.proofs.log.Log.since.Given as goal

abbrev pub invariant-loop-place : goal.invariant-loop-place
invariant-loop-place l = record {
  within : l.place ≤ length l.self.changes;
  end : l.place-end ≡ length l.self.changes;
  done : map (λ change. change.now) l.changes.items ++ drop l.place l.self.changes
      ≡ since l.number l.self.changes;
}
