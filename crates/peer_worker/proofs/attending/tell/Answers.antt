use Rattle.std.proofs.Common.{refl}
use Rattle.std.proofs.lemmas.Result.{err_from_is_err_and}
use Rattle.peer_worker.proofs.Saying.{said_short, said_whole}
use Rattle.peer_worker.proofs.Works.{works_same, works_still}
use Rattle.worker_frame.specs.Traffic.{so_far}
use Rattle.peer_worker.proofs.attending.tell.Goals as goal

pub returns-in_default-clause-takes : goal.returns-in_default-clause-takes
returns-in_default-clause-takes g c =
    λ seated start given more gives w.
    let before = g.W.Write.contents c.args.writer.now in
    c.make_turn.ensures.works seated start (so_far more before)
    (works_same c.args.context.now.hub.now seated c.args.worker.now start given more before gives w)

pub returns-in_err-count-clause-takes : goal.returns-in_err-count-clause-takes
returns-in_err-count-clause-takes g c =
    λ seated start given more gives w.
    let hub = c.args.context.now.hub.now in
    let before = g.W.Write.contents c.args.writer.now in
    let at = works_same hub seated c.args.worker.now start given more before gives w in
    let p = err_from_is_err_and c.from_residual.result c.from_residual.ensures.1 in
    rw (p.1, p.2) (said_short hub seated c.make_turn.new.worker start more before
    (g.W.Write.contents c.write.new.writer) c.in-Some.pushing c.write.new.self _ c.in-Some.is
    c.in_err-count.ensures (c.make_turn.ensures.works seated start (so_far more before) at))

pub returns-clause-takes : goal.returns-clause-takes
returns-clause-takes g c =
    λ seated start given more gives w.
    let hub = c.args.context.now.hub.now in
    let before = g.W.Write.contents c.args.writer.now in
    let after = g.W.Write.contents c.write.new.writer in
    let at = works_same hub seated c.args.worker.now start given more before gives w in
    rw c.report.ensures
    (works_still hub seated _ _ start (so_far more after) refl refl refl refl
    (said_whole hub seated c.make_turn.new.worker start more before after c.in-Some.pushing
    c.write.new.self c.in_ok-count.count c.in-Some.is c.in_ok-count.ensures
    (c.make_turn.ensures.works seated start (so_far more before) at)))
