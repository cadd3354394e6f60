use Rattle.std.proofs.Common.{◌≡◌, ◌+◌, ◌-◌, ℕ, length}
use Rattle.set_changes.specs.Noting.{AreKept}
use Rattle.set_changes.specs.Numbered.{Numbered, log_at}
use Rattle.set_changes.proofs.changes.Changes.reach.Given as goal

abbrev pub invariant-loop-self : goal.invariant-loop-self
invariant-loop-self l =
    let now : Numbered = record {
      count = l.self-inside.count;
      start = l.self-inside.start;
      logs = l.self-inside.logs.items;
    } in
    record {
      count : l.self-inside.count ≡ l.fn.self.count;
      kept : AreKept now;
      same : (other : ℕ) → log_at now other ≡ log_at l.fn.self other;
    }

abbrev pub decreases-loop-self : goal.decreases-loop-self
decreases-loop-self l = l.place + 1 - length l.self-inside.logs.items
