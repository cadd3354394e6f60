use Rattle.std.proofs.Common.{arith}
use Rattle.peer_rows.proofs.ending.look.Goals as goal

pub returns-clause-due : goal.returns-clause-due
returns-clause-due c = c.note.ensures.due c.args.t (omega arith)
    (c.least_end-least.ensures.behind c.args.t c.end_place.ensures.live)
