use Rattle.peer_worker.proofs.Moving.{knows_on}
use Rattle.peer_worker.proofs.pushing.begin_looking.Goals as goal

pub begin_over-requires-clause-knows : goal.begin_over-requires-clause-knows
begin_over-requires-clause-knows c =
    knows_on c.args.pushed.now c.args.teller.now c.args.told c.args.lens.now.seen
    c.in_ok-look.look.lens.now.seen c.in_ok-look.ensures.some.2 c.requires
