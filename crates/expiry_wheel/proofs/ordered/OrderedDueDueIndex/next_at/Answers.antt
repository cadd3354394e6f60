use Rattle.std.proofs.Common.{ap, sym, ◌∙◌, subst}
use Rattle.expiry_wheel.specs.Entries.{first_moment, IsInOrder}
use Rattle.expiry_wheel.proofs.Grouped.{sorted-entries_of, first_shown}
use Rattle.expiry_wheel.proofs.ordered.OrderedDueDueIndex.next_at.Goals as goal

pub returns-in-Some-clause-moment : goal.returns-in-Some-clause-moment
returns-in-Some-clause-moment g c =
    sym (first_shown g.T.Ord.cmp c.in-Some.at.now c.in-Some.field-0-1.now
    c.self.inside.moments.entries c.self.invariant c.in-Some.ensures.first)
    ∙ ap first_moment c.self.view_is

pub returns-in-Some-clause-ordered : goal.returns-in-Some-clause-ordered
returns-in-Some-clause-ordered g c =
    subst (IsInOrder g.T.Ord.cmp) c.self.view_is
    (sorted-entries_of g.T.Ord.cmp c.self.inside.moments.entries c.self.invariant)

pub returns-in-None-clause-ordered : goal.returns-in-None-clause-ordered
returns-in-None-clause-ordered g c =
    subst (IsInOrder g.T.Ord.cmp) c.self.view_is
    (sorted-entries_of g.T.Ord.cmp c.self.inside.moments.entries c.self.invariant)
