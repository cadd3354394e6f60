use Rattle.std.proofs.Common.{◌∙◌, sym}
use Rattle.session_core.proofs.UndoLemmas.{undone_last, undone_none}
use Rattle.session_core.proofs.undo.take_back.Goals as goal

pub loop-change-preserved : goal.loop-change-preserved
loop-change-preserved c =
    let invariant = rw c.in-Some.ensures.items at c.loop-change.invariant in
    rw c.take_one_back.ensures (sym (undone_last c.pop.new.self.items c.in-Some.change
    c.loop-change.entries.items) ∙ invariant)

pub returns : goal.returns
returns c =
    sym (undone_none c.loop-change.left.items c.loop-change.entries.items
    (sym c.loop-change.left.ok.0 ∙ c.in_default.ensures.cases.0)) ∙ c.loop-change.invariant
