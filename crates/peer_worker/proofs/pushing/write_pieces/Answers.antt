use Rattle.std.proofs.Common.{Err, Ok}
use Rattle.peer_worker.proofs.Spoken.{writes_as, writes_more}
use Rattle.peer_worker.proofs.pushing.write_pieces.Goals as goal

pub returns-in-Ok-eq0 : goal.returns-in-Ok-eq0
returns-in-Ok-eq0 g c =
    let before = g.W.Write.contents c.args.writer.now in
    let after = g.W.Write.contents c.write_piece.new.writer in
    writes_as c.args.pushed.now c.args.unsaid.now c.write_piece.new.unsaid before after
    c.in-Ok-eq0.field-0 c.loop.count
    (writes_more c.args.pushed.now c.args.unsaid.now c.loop.unsaid c.write_piece.new.unsaid before
    (g.W.Write.contents c.loop.writer) after tt (Ok c.in-Ok-eq0.field-0) c.loop.invariant
    c.in-Ok-eq0.ensures)

pub returns-in-Err : goal.returns-in-Err
returns-in-Err g c =
    writes_more c.args.pushed.now c.args.unsaid.now c.loop.unsaid c.write_piece.new.unsaid
    (g.W.Write.contents c.args.writer.now) (g.W.Write.contents c.loop.writer)
    (g.W.Write.contents c.write_piece.new.writer) tt (Err c.in-Err.failed) c.loop.invariant
    c.in-Err.ensures

pub loop-preserved : goal.loop-preserved
loop-preserved g c =
    let before = g.W.Write.contents c.args.writer.now in
    let after = g.W.Write.contents c.write_piece.new.writer in
    writes_as c.args.pushed.now c.args.unsaid.now c.write_piece.new.unsaid before after
    c.in-Ok.more tt
    (writes_more c.args.pushed.now c.args.unsaid.now c.loop.unsaid c.write_piece.new.unsaid before
    (g.W.Write.contents c.loop.writer) after tt (Ok c.in-Ok.more) c.loop.invariant
    c.in-Ok.ensures)
