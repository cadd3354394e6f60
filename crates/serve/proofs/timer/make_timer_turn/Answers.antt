use Rattle.std.proofs.lemmas.Result.{err_from_is_err_and}
use Rattle.serve.proofs.Timed.{of_begun, ticking_more, timed_cut}
use Rattle.serve.proofs.timer.make_timer_turn.Goals as goal

pub post_moment-requires-clause-pass : goal.post_moment-requires-clause-pass
post_moment-requires-clause-pass g c =
    of_begun c.args.context.now.hub.now (g.C.Clock.gives c.args.context.now.clock.now)
    c.post_portions.new.ticker.poster _ c.now-given.result c.in_ok-post_portions.ensures.to

pub returns-then-not-branch-clause-to : goal.returns-then-not-branch-clause-to
returns-then-not-branch-clause-to g c =
    timed_cut c.args.context.now.hub.now (g.C.Clock.gives c.args.context.now.clock.now)
    c.post_portions.new.ticker.poster c.post_portions.new.ticker.poster _ c.now-given.result 0
    c.now-given.ensures c.in_ok-post_portions.ensures.to (λ whats told. told)

pub returns-in_err-post_moment-clause-to : goal.returns-in_err-post_moment-clause-to
returns-in_err-post_moment-clause-to g c =
    let p = err_from_is_err_and c.from_residual-in_err-post_moment.result
    c.from_residual-in_err-post_moment.ensures.1 in
    rw (p.1, p.2) (timed_cut c.args.context.now.hub.now
    (g.C.Clock.gives c.args.context.now.clock.now) c.post_portions.new.ticker.poster
    c.post_moment.new.poster _ c.now-given.result _ c.now-given.ensures
    c.in_ok-post_portions.ensures.to (λ whats told. c.in_err-post_moment.ensures.told whats told))

pub returns-clause-to : goal.returns-clause-to
returns-clause-to g c =
    ticking_more c.args.context.now.hub.now (g.C.Clock.gives c.args.context.now.clock.now)
    c.post_portions.new.ticker.poster c.post_moment.new.poster _ c.now-given.result
    c.now-given.ensures c.in_ok-post_portions.ensures.to
    (λ whats told. c.in_ok-post_moment.ensures.told whats told)
