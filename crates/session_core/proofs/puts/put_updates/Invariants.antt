use Rattle.std.proofs.Common.{◌≡◌, ◌≤◌, ◌-◌}
use Rattle.update_values.specs.Plan.{IsPlan}
use Rattle.session_core.specs.Puts.{PutsGoOn}
use Rattle.session_core.proofs.puts.put_updates.Given as goal

abbrev pub invariant-loop-at : goal.invariant-loop-at
invariant-loop-at l =
    record {
      goes_on : PutsGoOn l.peer l.followed l.shape l.from l.last l.initial.facts l.facts
          l.given.messages l.at l.newest;
      forward : l.from ≤ l.at;
      first : l.at ≡ l.from → l.newest ≡ l.last;
      planned : IsPlan l.followed.layout l.shape.cols l.plan;
    }

abbrev pub decreases-loop-at : goal.decreases-loop-at
decreases-loop-at l = l.count - l.at
