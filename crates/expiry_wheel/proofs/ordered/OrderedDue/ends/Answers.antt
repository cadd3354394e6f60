use Rattle.std.proofs.Common.{subst}
use Rattle.expiry_wheel.specs.Slots.{SpansEntries}
use Rattle.expiry_wheel.proofs.Grouped.{spans_groups}
use Rattle.expiry_wheel.proofs.ordered.OrderedDue.ends.Goals as goal

pub returns-clause-some : goal.returns-clause-some
returns-clause-some g c =
    subst (λ es. SpansEntries es (c.in_ok-first.first.now, c.in_ok-last.last.now)) c.self.view_is
    (spans_groups g.T.Ord.cmp c.in_ok-first.first.now c.in_ok-last.last.now _ _
    c.self.inside.moments.entries c.self.invariant c.in_ok-first.ensures.first
    c.in_ok-last.ensures.last)
