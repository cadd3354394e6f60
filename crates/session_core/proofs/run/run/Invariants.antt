use Rattle.std.proofs.Common.{◌-◌, drop, IfSome}
use Rattle.session_core.specs.Plan.{IsPlanNow}
use Rattle.session_core.specs.Run.{GoesOn, run}
use Rattle.session_core.specs.Undo.{LeadBack}
use Rattle.session_core.proofs.run.run.Given as goal

abbrev pub invariant-loop-at : goal.invariant-loop-at
invariant-loop-at l =
    (IfSome l.plan (IsPlanNow l.tables l.track))
    × (GoesOn l.fn.facts l.facts l.fn.replies.items l.replies.items
    (run l.tables l.peer l.track (drop l.at l.given.messages))
    (run l.tables l.peer l.fn.track l.given.messages))
    × LeadBack l.fn.changes.items l.fn.track.entries l.changes.items l.track.entries

abbrev pub decreases-loop-at : goal.decreases-loop-at
decreases-loop-at l = l.count - l.at
