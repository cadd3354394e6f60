use Rattle.std.proofs.Common.{None, ap}
use Rattle.std.proofs.lemmas.Result.{err_from_is_err_and}
use Rattle.session_core.specs.State.{SessionState}
use Rattle.peer_worker.proofs.Saying.{untraced, works_untraced}
use Rattle.peer_worker.proofs.Works.{works_still}
use Rattle.worker_frame.proofs.Sent.{wrote_none}
use Rattle.worker_frame.specs.Traffic.{so_far}
use Rattle.peer_worker.proofs.running.treat_piece.Goals as goal

pub returns-in_err-take_piece-clause-takes : goal.returns-in_err-take_piece-clause-takes
returns-in_err-take_piece-clause-takes g c =
    λ seated start given more gives w.
    let p = err_from_is_err_and c.from_residual.result c.from_residual.ensures.1 in
    rw (p.1, p.2) (c.in_err-take_piece.ensures.takes seated start given more gives
    (works_still c.args.context.now.hub.now seated c.args.worker.now c.listen.new.self start
    (so_far given (g.W.Write.contents c.args.writer.now))
    (ap (λ (s : SessionState). s.seated) c.listen.ensures.session)
    (ap (λ (s : SessionState). s.stage) c.listen.ensures.session) c.listen.ensures.poster
    c.listen.ensures.pushing w))

pub returns-clause-takes : goal.returns-clause-takes
returns-clause-takes g c =
    λ seated start given more gives w.
    let hub = c.args.context.now.hub.now in
    c.attend.ensures.takes seated start more more (wrote_none more)
    (works_still hub seated c.take_piece.new.worker c.greet.new.self start
    (so_far more (g.W.Write.contents c.take_piece.new.writer))
    (ap (λ (s : SessionState). s.seated) c.greet.ensures.session)
    (ap (λ (s : SessionState). s.stage) c.greet.ensures.session) c.greet.ensures.poster
    c.greet.ensures.pushing
    (c.in_ok-take_piece.ensures.takes seated start given more gives
    (works_still hub seated c.args.worker.now c.listen.new.self start
    (so_far given (g.W.Write.contents c.args.writer.now))
    (ap (λ (s : SessionState). s.seated) c.listen.ensures.session)
    (ap (λ (s : SessionState). s.stage) c.listen.ensures.session) c.listen.ensures.poster
    c.listen.ensures.pushing w)))

pub attend-requires : goal.attend-requires
attend-requires g c =
    let hub = c.args.context.now.hub.now in
    let seated = c.requires.work.0 in
    let before = so_far None (g.W.Write.contents c.args.writer.now) in
    let after = works_still hub seated c.take_piece.new.worker c.greet.new.self untraced
    (so_far None (g.W.Write.contents c.take_piece.new.writer))
    (ap (λ (s : SessionState). s.seated) c.greet.ensures.session)
    (ap (λ (s : SessionState). s.stage) c.greet.ensures.session) c.greet.ensures.poster
    c.greet.ensures.pushing
    (c.in_ok-take_piece.ensures.takes seated untraced None None tt
    (works_still hub seated c.args.worker.now c.listen.new.self untraced before
    (ap (λ (s : SessionState). s.seated) c.listen.ensures.session)
    (ap (λ (s : SessionState). s.stage) c.listen.ensures.session) c.listen.ensures.poster
    c.listen.ensures.pushing
    (works_untraced hub seated c.args.worker.now c.requires.work.1 before c.requires.work.2))) in
    record {
      work = (seated, after.turns, after.work);
    }
