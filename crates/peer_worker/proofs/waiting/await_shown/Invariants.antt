use Rattle.std.proofs.Common.{◌≡◌}
use Rattle.peer_worker.specs.Waiting.{SignalsThen, WroteIf}
use Rattle.peer_worker.proofs.waiting.await_shown.Given as goal

-- the ticket stays the same, and only signals were written, of the last one perhaps a beginning
abbrev pub invariant-loop : goal.invariant-loop
invariant-loop g l =
    (goal.iterator-loop g).can_next l.iterator' × (goal.iterator-loop g).is_finite l.iterator'
    × (l.waited ≡ l.fn.ticket)
    × SignalsThen (g.W.Write.contents l.fn.writer)
    (λ written. WroteIf l.is_heard written (g.W.Write.contents l.writer))
