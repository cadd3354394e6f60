use Rattle.std.proofs.Common.{ap, sym, ◌∙◌, subst}
use Rattle.std.specs.Option.{option_copied}
use Rattle.expiry_wheel.specs.Entries.{IsInOrder, first_entry}
use Rattle.expiry_wheel.proofs.Grouped.{sorted-entries_of, first_entry_shown, some_shown, not_none}
use Rattle.expiry_wheel.proofs.ordered.OrderedDue.first.Goals as goal

pub returns-in_err-at-clause-ordered : goal.returns-in_err-at-clause-ordered
returns-in_err-at-clause-ordered g c =
    subst (IsInOrder g.T.Ord.cmp) c.self.view_is
    (sorted-entries_of g.T.Ord.cmp c.self.inside.moments.entries c.self.invariant)

pub returns-in_err-first-clause-first : goal.returns-in_err-first-clause-first
returns-in_err-first-clause-first g c =
    absurd (not_none c.in_ok-at.together.now
    (some_shown g.T.Ord.cmp c.in_ok-at.at.now c.in_ok-at.together.now
    c.self.inside.moments.entries c.self.invariant c.in_ok-at.ensures.first)
    (sym c.first.ensures.first ∙ ap option_copied c.in_err-first.was))

pub returns-in_err-first-clause-ordered : goal.returns-in_err-first-clause-ordered
returns-in_err-first-clause-ordered g c =
    subst (IsInOrder g.T.Ord.cmp) c.self.view_is
    (sorted-entries_of g.T.Ord.cmp c.self.inside.moments.entries c.self.invariant)

pub returns-clause-first : goal.returns-clause-first
returns-clause-first g c =
    sym (first_entry_shown g.T.Ord.cmp c.in_ok-at.at.now c.in_ok-first.field-0.now
    c.in_ok-at.together.now c.self.inside.moments.entries c.in_ok-at.ensures.first
    (sym c.first.ensures.first ∙ ap option_copied c.in_ok-first.was))
    ∙ ap first_entry c.self.view_is

pub returns-clause-ordered : goal.returns-clause-ordered
returns-clause-ordered g c = subst (IsInOrder g.T.Ord.cmp) c.self.view_is
    (sorted-entries_of g.T.Ord.cmp c.self.inside.moments.entries c.self.invariant)
