use Rattle.std.proofs.Common.{sym, subst}
use Rattle.standing_filters.specs.Marked.{AreMarked}
use Rattle.standing_filters.proofs.Marking.{marked_revalued}
use Rattle.standing_filters.proofs.marked.MarkedVerdicts.replace.Goals as goal

pub invariant_of-self : goal.invariant_of-self
invariant_of-self c = subst (AreMarked c.self.inside.marks) (sym c.replace.ensures.after)
    (marked_revalued c.self.inside.marks c.self.inside.verdicts.places c.args.at c.args.verdict
    c.self.invariant)
