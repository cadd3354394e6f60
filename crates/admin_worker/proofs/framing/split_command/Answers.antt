use Rattle.std.proofs.Common.{sym}
use Rattle.admin_worker.proofs.Framed.{parted_count}
use Rattle.admin_worker.proofs.framing.split_command.Goals as goal

pub returns-clause-parts : goal.returns-clause-parts
returns-clause-parts c = parted_count c.args.piece.now c.in_ok-at.at
    (sym c.in_ok-at.ensures.first)
