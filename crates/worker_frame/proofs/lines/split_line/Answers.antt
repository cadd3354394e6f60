use Rattle.std.proofs.Common.{sym}
use Rattle.worker_frame.proofs.Pieces.{parted_count}
use Rattle.worker_frame.proofs.lines.split_line.Goals as goal

pub returns-clause-parts : goal.returns-clause-parts
returns-clause-parts c = parted_count c.args.piece.now c.in_ok-end.end
    (sym c.in_ok-end.ensures.first)
