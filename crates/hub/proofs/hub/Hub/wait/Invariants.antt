use Rattle.std.proofs.Common.{◌≡◌}
use Rattle.hub.proofs.hub.Hub.wait.Given as goal

-- the ticket stays the same
abbrev pub invariant-loop : goal.invariant-loop
invariant-loop g l =
    (goal.iterator-loop g).can_next l.iterator' × (goal.iterator-loop g).is_finite l.iterator'
    × (l.ticket ≡ l.initial.ticket)
