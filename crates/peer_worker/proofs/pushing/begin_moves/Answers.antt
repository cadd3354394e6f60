use Rattle.std.proofs.Common.{map}
use Rattle.peer_worker.proofs.Moving.{moved_brings}
use Rattle.peer_worker.proofs.pushing.begin_moves.Goals as goal

pub returns : goal.returns
returns c =
    moved_brings c.args.pushed.now c.args.teller.now c.begin_by.new.self
    c.args.look.now.lens.now.seen c.args.number (map (λ moves. moves.items) c.args.moves.now)
    c.book.result.now c.moment-now.result c.in-Ok.unsaid c.book.ensures c.requires.moved
    c.requires.knows c.moment-now.ensures.value c.in-Ok.ensures.said c.in-Ok.ensures.told
