use Rattle.peer_worker.proofs.Works.{stops_at_start}
use Rattle.worker_frame.specs.Traffic.{so_far}
use Rattle.peer_worker.proofs.running.run_session.Goals as goal

pub returns-in_default-clause-works : goal.returns-in_default-clause-works
returns-in_default-clause-works g c =
    stops_at_start c.args.context.now.hub.now c.args.worker.now.session.seated
    c.make_room.new.worker
    (so_far (g.S.Source.given c.args.link.now.source) (g.W.Write.contents c.args.link.now.writer))
    (c.make_room.ensures.work c.args.worker.now.session.seated c.requires.work)
