use Rattle.std.proofs.Common.{◌+◌, ap, arith, subst, sym, ◌∙◌}
use Rattle.std.proofs.lemmas.Result.{err_from_is_err_and}
use Rattle.serve.proofs.Timed.{begun_more, begun_wider, of_begun, timed_cut}
use Rattle.serve.specs.Ticking.{HasBegun}
use Rattle.serve.proofs.timer.post_portions.Goals as goal

pub post_moment-requires-clause-pass : goal.post_moment-requires-clause-pass
post_moment-requires-clause-pass g c =
    ap (λ poster. poster.pass.seen.of) c.portion-next.ensures.poster
    ∙ of_begun c.args.context.now.hub.now (g.C.Clock.gives c.args.context.now.clock.now)
    c.loop.ticker.poster c.args.ticker.now.last (c.loop.at + 1) c.loop.invariant.begun

pub returns-then-next-given-clause-to : goal.returns-then-next-given-clause-to
returns-then-next-given-clause-to g c =
    let hub = c.args.context.now.hub.now in
    let gives = g.C.Clock.gives c.args.context.now.clock.now in
    let last = c.args.ticker.now.last in
    let i = c.loop.invariant in
    subst (λ poster. HasBegun hub gives poster last c.args.given)
    (sym c.portion-next.ensures.poster)
    (begun_wider hub gives c.loop.ticker.poster last (c.loop.at + 1) c.args.given
    (omega (arith, i.below)) i.begun)

pub returns-in_err-post_moment-clause-to : goal.returns-in_err-post_moment-clause-to
returns-in_err-post_moment-clause-to g c =
    let hub = c.args.context.now.hub.now in
    let gives = g.C.Clock.gives c.args.context.now.clock.now in
    let last = c.args.ticker.now.last in
    let i = c.loop.invariant in
    let p = err_from_is_err_and c.from_residual.result c.from_residual.ensures.1 in
    rw (p.1, p.2) (timed_cut hub gives c.portion-next.new.self.poster c.post_moment.new.poster last
    c.args.given _ c.requires.gives
    (subst (λ poster. HasBegun hub gives poster last c.args.given)
    (sym c.portion-next.ensures.poster)
    (begun_wider hub gives c.loop.ticker.poster last (c.loop.at + 1) c.args.given
    (omega (arith, i.below)) i.begun))
    (λ whats told. c.in_err-post_moment.ensures.told whats told))

pub returns-then-stop-clause-to : goal.returns-then-stop-clause-to
returns-then-stop-clause-to g c =
    let hub = c.args.context.now.hub.now in
    let gives = g.C.Clock.gives c.args.context.now.clock.now in
    let last = c.args.ticker.now.last in
    let next = c.portion-next.result in
    let i = c.loop.invariant in
    begun_wider hub gives c.post_moment.new.poster last (next + 1) c.args.given
    (omega (arith, c.if-next-given.false))
    (begun_more hub gives c.portion-next.new.self.poster c.post_moment.new.poster last c.loop.at
    next i.from c.portion-next.ensures.behind
    (subst (λ poster. HasBegun hub gives poster last (c.loop.at + 1))
    (sym c.portion-next.ensures.poster) i.begun)
    (λ whats told. c.in_ok-post_moment.ensures.told whats told))

pub loop-preserved : goal.loop-preserved
loop-preserved g c =
    let hub = c.args.context.now.hub.now in
    let gives = g.C.Clock.gives c.args.context.now.clock.now in
    let last = c.args.ticker.now.last in
    let next = c.portion-next.result in
    let i = c.loop.invariant in record {
      begun = begun_more hub gives c.portion-next.new.self.poster c.post_moment.new.poster last
          c.loop.at next i.from c.portion-next.ensures.behind
          (subst (λ poster. HasBegun hub gives poster last (c.loop.at + 1))
          (sym c.portion-next.ensures.poster) i.begun)
          (λ whats told. c.in_ok-post_moment.ensures.told whats told);
      from = omega (arith, i.from, c.portion-next.ensures.behind);
      below = c.if-next-given.false;
      same_last = c.portion-next.ensures.last ∙ i.same_last;
      same_seat = c.post_moment.ensures.seat
          ∙ (ap (λ poster. poster.pass.seat) c.portion-next.ensures.poster ∙ i.same_seat);
    }

pub returns-clause-to : goal.returns-clause-to
returns-clause-to g c =
    begun_wider c.args.context.now.hub.now (g.C.Clock.gives c.args.context.now.clock.now)
    c.loop.ticker.poster c.args.ticker.now.last (c.loop.at + 1) c.args.given
    (omega (arith, c.loop.invariant.below)) c.loop.invariant.begun
