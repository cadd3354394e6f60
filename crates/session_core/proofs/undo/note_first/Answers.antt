use Rattle.session_core.proofs.UndoLemmas.{noted_new}
use Rattle.session_core.proofs.undo.note_first.Goals as goal

pub returns-clause-ok : goal.returns-clause-ok
returns-clause-ok c = λ entries next is. rw c.in_ok-push.ensures.items
    (noted_new c.args.changes.now.items c.args.at c.args.entry.now next entries is)
