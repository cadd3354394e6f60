use Rattle.std.proofs.Common.{ap, List, refl, subst}
use mathlib.Core.List.{IsPrefix}
use Rattle.hub.specs.declared.entry.Entry.{Entry}
use Rattle.hub.proofs.Histories.{compared}
use Rattle.hub.proofs.log.Front.compare.Goals as goal

pub returns-clause-order : goal.returns-clause-order
returns-clause-order c =
    let both = c.learn.new.self.log in
    let this : IsPrefix c.self.inside.seen.log both =
    subst (λ (l : List Entry). IsPrefix l both) (ap (λ s. s.log) c.again-both.ensures)
    c.learn.ensures.2 in
    rw (← c.self.view_is, ← c.other.view_is)
    (compared c.self.inside.seen.book c.other.inside.seen.book c.self.inside.seen.log
    c.other.inside.seen.log both c.self.inside.count c.other.inside.count c.self.invariant.1
    c.other.invariant.1 this c.learn.ensures.3 c.self.invariant.0 c.other.invariant.0 _ refl)
