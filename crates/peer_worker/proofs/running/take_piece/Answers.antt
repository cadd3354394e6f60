use Rattle.std.proofs.Common.{◌≡◌, ◌++◌, Option, None, Err, Ok, ap, sym, subst, ◌∙◌}
use Rattle.std.proofs.lemmas.Result.{err_from_is_err_and}
use Rattle.session_core.specs.Piece.{setup_of}
use Rattle.session_core.specs.State.{SessionState}
use Rattle.session_core.specs.TalkAnswers.{FaultAnswersTalk, ContinuesTalk}
use Rattle.session_core.specs.declared.cause.SessionCause.TheVariants as causes
use Rattle.peer_worker.proofs.Ends.{never_late_by}
use Rattle.peer_worker.proofs.Facts.{fact_may_post, fault_may_post}
use Rattle.peer_worker.proofs.Works.{ended_by, fault_at, seat_kept, settled, stands_at, unsettled}
use Rattle.worker_frame.specs.Traffic.{so_far}
use Rattle.peer_worker.proofs.Tellings.{asked_on}
use Rattle.worker_frame.specs.declared.poster.Poster.{Poster}
use Rattle.peer_worker.specs.Turns.{PosterTells, facts_in, seat_at, taken_in}
use Rattle.peer_worker.specs.Working.{Works}
use Rattle.peer_worker.proofs.running.take_piece.Goals as goal

pub post_batch-requires-clause-fits : goal.post_batch-requires-clause-fits
post_batch-requires-clause-fits g c =
    let w = c.requires.work.2 in
    fact_may_post c.config.result.now c.args.context.now.hub.now.config
    c.args.worker.now.session.seated
    c.requires.work.0 (taken_in c.requires.work.1) c.args.piece.now
    c.args.worker.now.session.stage c.feed.new.self.stage c.in-Ok.batch None c.config.ensures
    w.has_seat w.stands c.in-Ok.ensures.talk c.in-Ok.ensures.fits

pub end_session-requires-clause-fits : goal.end_session-requires-clause-fits
end_session-requires-clause-fits g c =
    let w = c.requires.work.2 in
    fault_may_post c.config.result.now c.args.context.now.hub.now.config
    c.args.worker.now.session.seated
    c.requires.work.0 (taken_in c.requires.work.1) c.args.piece.now
    c.args.worker.now.session.stage c.feed.new.self.stage c.args.worker.now.session
    c.feed.new.self c.args.now
    (setup_of c.config.result.now) c.args.worker.now.session.seated
    c.args.worker.now.session.stage
    c.in-Err.fault c.config.ensures w.has_seat w.stands
    c.in-Err.ensures.talk c.in-Err.ensures.fits c.in-Err.ensures.exact

pub returns-in_ok-post_batch-in-Ok-clause-takes : goal.returns-in_ok-post_batch-in-Ok-clause-takes
returns-in_ok-post_batch-in-Ok-clause-takes g c =
    λ seated start given more gives at_first.
    let hub = c.args.context.now.hub.now in
    let new = c.ask.new.self in
    let then = c.in_ok-post_batch-in-Ok.ensures.told in
    let w : Works hub seated c.args.worker.now start (so_far given then.written) =
    then.signals hub seated c.args.worker.now start given at_first in
    let stands : ContinuesTalk (setup_of hub.config) seated (taken_in w.turns) c.args.piece.now
    c.in-Ok.batch None c.feed.new.self.stage =
    stands_at c.config.result.now hub.config c.args.worker.now.session.seated seated
    (taken_in w.turns) c.args.piece.now c.args.worker.now.session.stage c.feed.new.self.stage
    c.in-Ok.batch None
    c.config.ensures w.work.has_seat w.work.stands c.in-Ok.ensures.talk in
    let session : new.session ≡ c.feed.new.self =
    c.ask.ensures.session ∙ c.post_batch.ensures.session in
    let same : new.session.seated ≡ seated =
    ap (λ (s : SessionState). s.seated) session
    ∙ (ap (λ (s : SessionState). s.seated) c.in-Ok.ensures.exact.2 ∙ w.work.has_seat) in
    let told = then.goes_on (facts_in (setup_of hub.config) seated w.turns) w.work.told in
    settled hub seated c.args.worker.now new start given more
    then.written (g.W.Write.contents c.post_batch.new.writer)
    c.args.piece.now c.in-Ok.batch gives w
    (subst (λ stage. ContinuesTalk (setup_of hub.config) seated (taken_in w.turns) c.args.piece.now
    c.in-Ok.batch None stage) (sym (ap (λ (s : SessionState). s.stage) session)) stands)
    same (ap seat_at c.ask.ensures.poster ∙ c.post_batch.ensures.seat)
    (asked_on c.asks_all-asks.result c.in-Ok.batch.replies c.args.worker.now.pushing
    c.post_batch.new.worker.pushing new.pushing c.ask.ensures.pushing c.post_batch.ensures.pushing
    c.asks_all-asks.ensures)
    (subst (λ (poster : Option Poster). PosterTells hub poster
    (facts_in (setup_of hub.config) seated w.turns ++ c.in-Ok.batch.facts) 0)
    (sym c.ask.ensures.poster) told.0) told.1

pub returns-in_err-post_batch-in-Ok-clause-takes : goal.returns-in_err-post_batch-in-Ok-clause-takes
returns-in_err-post_batch-in-Ok-clause-takes g c =
    λ seated start given more gives at_first.
    let hub = c.args.context.now.hub.now in
    let new = c.post_batch.new.worker in
    let then = c.in_err-post_batch-in-Ok.ensures.told in
    let w : Works hub seated c.args.worker.now start (so_far given then.written) =
    then.signals hub seated c.args.worker.now start given at_first in
    let stands : ContinuesTalk (setup_of hub.config) seated (taken_in w.turns) c.args.piece.now
    c.in-Ok.batch None c.feed.new.self.stage =
    stands_at c.config.result.now hub.config c.args.worker.now.session.seated seated
    (taken_in w.turns) c.args.piece.now c.args.worker.now.session.stage c.feed.new.self.stage
    c.in-Ok.batch None
    c.config.ensures w.work.has_seat w.work.stands c.in-Ok.ensures.talk in
    let p = err_from_is_err_and c.from_residual.result c.from_residual.ensures.1 in
    rw (p.1, p.2) (unsettled (Unit {0}) hub seated c.args.worker.now new start given more
    then.written (g.W.Write.contents c.post_batch.new.writer)
    c.args.piece.now c.in-Ok.batch None _ gives w
    (subst (λ stage. ContinuesTalk (setup_of hub.config) seated (taken_in w.turns) c.args.piece.now
    c.in-Ok.batch None stage) (sym
    (ap (λ (s : SessionState). s.stage) c.post_batch.ensures.session)) stands)
    c.post_batch.ensures.seat
    (then.goes_on (facts_in (setup_of hub.config) seated w.turns) w.work.told))

pub returns-in_ok-cause-in-Err-clause-takes : goal.returns-in_ok-cause-in-Err-clause-takes
returns-in_ok-cause-in-Err-clause-takes g c =
    λ seated start given more gives at_first.
    let hub = c.args.context.now.hub.now in
    let new = c.end_session.new.worker in
    let fault = c.in-Err.fault in
    let then = c.in_ok-cause-in-Err.ensures.ends in
    let w : Works hub seated c.args.worker.now start (so_far given then.written) =
    then.signals hub seated c.args.worker.now start given at_first in
    let answers : FaultAnswersTalk fault.cause fault.batch (setup_of hub.config) seated
    (taken_in w.turns) c.args.piece.now c.feed.new.self.stage =
    fault_at c.config.result.now hub.config c.args.worker.now.session.seated seated
    (taken_in w.turns)
    c.args.piece.now c.args.worker.now.session.stage c.feed.new.self.stage fault
    c.config.ensures w.work.has_seat w.work.stands c.in-Err.ensures.talk in
    let kept : c.feed.new.self.seated ≡ c.args.worker.now.session.seated =
    seat_kept fault.cause fault.batch c.args.worker.now.session c.feed.new.self
    c.args.piece.now c.args.now
    (setup_of c.config.result.now) c.args.worker.now.session.seated
    c.args.worker.now.session.stage
    c.in-Err.ensures.exact in
    let same : new.session.seated ≡ seated =
    ap (λ (s : SessionState). s.seated) c.end_session.ensures.session
    ∙ (kept ∙ w.work.has_seat) in
    ended_by hub seated c.args.worker.now new start given more
    then.written (g.W.Write.contents c.end_session.new.writer)
    c.args.piece.now fault (Ok _) gives w same c.end_session.ensures.seat
    (subst (λ stage. FaultAnswersTalk fault.cause fault.batch (setup_of hub.config) seated
    (taken_in w.turns) c.args.piece.now stage)
    (sym (ap (λ (s : SessionState). s.stage) c.end_session.ensures.session)) answers)
    (then.goes_on (facts_in (setup_of hub.config) seated w.turns) w.work.told)

pub returns-in_err-cause-in-Err-clause-takes : goal.returns-in_err-cause-in-Err-clause-takes
returns-in_err-cause-in-Err-clause-takes g c =
    λ seated start given more gives at_first.
    let hub = c.args.context.now.hub.now in
    let new = c.end_session.new.worker in
    let fault = c.in-Err.fault in
    let then = c.in_err-cause-in-Err.ensures.ends in
    let w : Works hub seated c.args.worker.now start (so_far given then.written) =
    then.signals hub seated c.args.worker.now start given at_first in
    let answers : FaultAnswersTalk fault.cause fault.batch (setup_of hub.config) seated
    (taken_in w.turns) c.args.piece.now c.feed.new.self.stage =
    fault_at c.config.result.now hub.config c.args.worker.now.session.seated seated
    (taken_in w.turns)
    c.args.piece.now c.args.worker.now.session.stage c.feed.new.self.stage fault
    c.config.ensures w.work.has_seat w.work.stands c.in-Err.ensures.talk in
    let kept : c.feed.new.self.seated ≡ c.args.worker.now.session.seated =
    seat_kept fault.cause fault.batch c.args.worker.now.session c.feed.new.self
    c.args.piece.now c.args.now
    (setup_of c.config.result.now) c.args.worker.now.session.seated
    c.args.worker.now.session.stage
    c.in-Err.ensures.exact in
    let same : new.session.seated ≡ seated =
    ap (λ (s : SessionState). s.seated) c.end_session.ensures.session
    ∙ (kept ∙ w.work.has_seat) in
    let p = err_from_is_err_and c.from_residual-in_err-cause-in-Err.result
    c.from_residual-in_err-cause-in-Err.ensures.1 in
    rw (p.1, p.2) (ended_by hub seated c.args.worker.now new start given more
    then.written (g.W.Write.contents c.end_session.new.writer)
    c.args.piece.now fault (Err _) gives w same c.end_session.ensures.seat
    (subst (λ stage. FaultAnswersTalk fault.cause fault.batch (setup_of hub.config) seated
    (taken_in w.turns) c.args.piece.now stage)
    (sym (ap (λ (s : SessionState). s.stage) c.end_session.ensures.session)) answers)
    (then.goes_on (facts_in (setup_of hub.config) seated w.turns) w.work.told))

pub returns-in_ok-cause-in-Err-clause-heard : goal.returns-in_ok-cause-in-Err-clause-heard
returns-in_ok-cause-in-Err-clause-heard g c =
    λ in_time late.
    let hub = c.args.context.now.hub.now in
    let fault = c.in-Err.fault in
    let seated = c.requires.work.0 in
    let taken = taken_in c.requires.work.1 in
    let w = c.requires.work.2 in
    let answers : FaultAnswersTalk fault.cause fault.batch (setup_of hub.config) seated taken
    c.args.piece.now c.feed.new.self.stage =
    fault_at c.config.result.now hub.config c.args.worker.now.session.seated seated taken
    c.args.piece.now c.args.worker.now.session.stage c.feed.new.self.stage fault
    c.config.ensures w.has_seat w.stands c.in-Err.ensures.talk in
    let is : c.in_ok-cause-in-Err.cause ≡ causes.TimedOut = cc late in
    absurd (never_late_by fault.cause fault.batch (setup_of hub.config) seated taken
    c.args.piece.now c.feed.new.self.stage answers
    (sym c.in_ok-cause-in-Err.ensures.cause ∙ is))
