use Rattle.std.proofs.Common.{None}
use Rattle.std.proofs.lemmas.Result.{err_from_is_err_and}
use Rattle.peer_worker.proofs.Saying.{untraced, works_untraced}
use Rattle.worker_frame.proofs.Sent.{wrote_none}
use Rattle.worker_frame.specs.Traffic.{so_far}
use Rattle.peer_worker.proofs.attending.attend.Goals as goal

pub returns-in_err-pause-clause-takes : goal.returns-in_err-pause-clause-takes
returns-in_err-pause-clause-takes g c =
    λ seated start given more gives w.
    let p = err_from_is_err_and c.from_residual.result c.from_residual.ensures.1 in
    rw (p.1, p.2)
    (c.in_err-pause.ensures.takes c.args.context.now.hub.now seated start given more gives w)

pub tell-requires : goal.tell-requires
tell-requires g c =
    let hub = c.args.context.now.hub.now in
    let seated = c.requires.work.0 in
    let after = c.in_ok-pause.ensures.takes hub seated untraced None None tt
    (works_untraced hub seated c.args.worker.now c.requires.work.1
    (so_far None (g.W.Write.contents c.args.writer.now)) c.requires.work.2) in record {
      work = (seated, after.turns, after.work);
    }

pub returns-clause-takes : goal.returns-clause-takes
returns-clause-takes g c =
    λ seated start given more gives w.
    c.tell.ensures.takes seated start more more (wrote_none more)
    (c.in_ok-pause.ensures.takes c.args.context.now.hub.now seated start given more gives w)
