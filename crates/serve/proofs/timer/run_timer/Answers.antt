use Rattle.std.proofs.Common.{◌≡◌, ap, subst, ◌∙◌, true}
use Rattle.serve.proofs.Timed.{ticking_none, timed_served}
use Rattle.worker_frame.specs.Moments.{IsTimed, cut_by, stored_by}
use Rattle.serve.proofs.timer.run_timer.Goals as goal

pub post_moments-ended-requires : goal.post_moments-ended-requires
post_moments-ended-requires g c = record {
  at = ticking_none c.args.context.now.hub.now (g.C.Clock.gives c.args.context.now.clock.now)
      c.new-poster.result
      (c.new-poster.ensures.told c.args.context.now.hub.now c.requires.pass.0 c.requires.pass.1);
}

pub returns-in-Ok-clause-ok : goal.returns-in-Ok-clause-ok
returns-in-Ok-clause-ok g c =
    let same : c.post_moments-ended.new.ticker.poster.pass.seat ≡ c.args.pass.seat =
    c.in-Ok.ensures.seat ∙ ap (λ p. p.seat) c.new-poster.ensures.pass in
    subst (λ seat. IsTimed c.args.context.now.hub.now
    (g.C.Clock.gives c.args.context.now.clock.now) true seat 0
    c.leave-served.result) same
    (timed_served c.args.context.now.hub.now (g.C.Clock.gives c.args.context.now.clock.now) true
    c.post_moments-ended.new.ticker.poster
    c.post_moments-ended.new.ticker.poster.pass.seat 0 c.leave-served.result c.in-Ok.ensures.timed
    (λ whats told. c.leave-served.ensures whats 0 told))

pub returns-clause-err : goal.returns-clause-err
returns-clause-err g c =
    let same : c.post_moments-ended.new.ticker.poster.pass.seat ≡ c.args.pass.seat =
    c.in-Err.ensures.seat ∙ ap (λ p. p.seat) c.new-poster.ensures.pass in
    subst (λ seat. IsTimed c.args.context.now.hub.now
    (g.C.Clock.gives c.args.context.now.clock.now) (cut_by c.in-Err.cause) seat
    (stored_by c.in-Err.cause)
    c.leave-served.result) same
    (timed_served c.args.context.now.hub.now (g.C.Clock.gives c.args.context.now.clock.now)
    (cut_by c.in-Err.cause)
    c.post_moments-ended.new.ticker.poster
    c.post_moments-ended.new.ticker.poster.pass.seat (stored_by c.in-Err.cause)
    c.leave-served.result c.in-Err.ensures.timed
    (λ whats told. c.leave-served.ensures whats (stored_by c.in-Err.cause) told))
