use Rattle.std.proofs.Common.{sym, ◌∙◌}
use Rattle.peer_rows.proofs.Counting.{most_at_held, most_at_none}
use Rattle.peer_rows.proofs.row.Row.most.Goals as goal

pub returns-in-Some : goal.returns-in-Some
returns-in-Some c = c.most-in-Some.ensures
    ∙ sym (most_at_held c.args.self.now.cells c.args.col c.in-Some.held (sym c.in-Some.ensures))

pub returns-in-None : goal.returns-in-None
returns-in-None c = sym (most_at_none c.args.self.now.cells c.args.col (sym c.in-None.ensures))
