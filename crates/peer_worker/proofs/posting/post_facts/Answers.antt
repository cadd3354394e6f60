use Rattle.std.proofs.Common.{◌==◌, ap, inl, refl, subst, ◌∙◌}
use Rattle.std.proofs.lemmas.Result.{err_from_is_err_and}
use Rattle.peer_worker.proofs.Pulses.{posts_empty, posts_nowhere, signals_none, waits_for}
use Rattle.peer_worker.proofs.Pulses.{when_heard, when_unheard}
use Rattle.peer_worker.specs.Turns.{PosterTells}
use Rattle.peer_worker.proofs.posting.post_facts.Goals as goal

pub returns-in_default-clause-told : goal.returns-in_default-clause-told
returns-in_default-clause-told g c =
    let before = g.W.Write.contents c.args.writer.now in record {
      written = before;
      signals = signals_none before;
      goes_on = λ whats told. posts_nowhere c.args.context.now.hub.now c.args.worker.now.poster
          whats c.args.facts before c.in_default.is;
    }

pub returns-then-is_empty-clause-told : goal.returns-then-is_empty-clause-told
returns-then-is_empty-clause-told g c =
    let before = g.W.Write.contents c.args.writer.now in record {
      written = before;
      signals = signals_none before;
      goes_on = λ whats told. (
        posts_empty c.args.context.now.hub.now c.in-Some.poster whats c.args.facts
            c.if-is_empty.ensures
            (subst (λ d. PosterTells c.args.context.now.hub.now d whats 0) c.in-Some.is told),
        refl,
      );
    }

pub returns-in_err-ticket-clause-told : goal.returns-in_err-ticket-clause-told
returns-in_err-ticket-clause-told g c =
    let before = g.W.Write.contents c.args.writer.now in
    let p = err_from_is_err_and c.from_residual.result c.from_residual.ensures.1 in record {
      written = before;
      signals = signals_none before;
      goes_on = λ whats told. rw (p.1, p.2) (
        c.in_err-ticket.ensures.appended whats
            (subst (λ d. PosterTells c.args.context.now.hub.now d whats 0) c.in-Some.is told),
        inl refl,
      );
    }

pub returns-clause-told : goal.returns-clause-told
returns-clause-told g c =
    let then = c.in_ok-awaited.ensures in record {
      written = then.written;
      signals = then.signals;
      goes_on = λ whats told. rw c.reuse.ensures (
        c.take_up.ensures.told c.args.context.now.hub.now whats c.args.facts
            (waits_for c.args.context.now.hub.now c.append.new.self whats c.args.facts
            c.in_ok-ticket.ticket c.in_ok-awaited.awaited.receipt then.goes_on.0
            (c.in_ok-ticket.ensures.appended whats
            (subst (λ d. PosterTells c.args.context.now.hub.now d whats 0) c.in-Some.is told))),
        when_heard c.in_ok-awaited.awaited.is_heard then.written
            (g.W.Write.contents c.await_shown.new.writer) c.if-not-awaited.false then.goes_on.1,
      );
    }

pub returns-then-not-awaited-clause-told : goal.returns-then-not-awaited-clause-told
returns-then-not-awaited-clause-told g c =
    let then = c.in_ok-awaited.ensures in record {
      written = then.written;
      signals = then.signals;
      goes_on = λ whats told. rw c.reuse.ensures (
        c.take_up.ensures.told c.args.context.now.hub.now whats c.args.facts
            (waits_for c.args.context.now.hub.now c.append.new.self whats c.args.facts
            c.in_ok-ticket.ticket c.in_ok-awaited.awaited.receipt then.goes_on.0
            (c.in_ok-ticket.ensures.appended whats
            (subst (λ d. PosterTells c.args.context.now.hub.now d whats 0) c.in-Some.is told))),
        when_unheard c.in_ok-awaited.awaited.is_heard then.written
            (g.W.Write.contents c.await_shown.new.writer) c.if-not-awaited.true then.goes_on.1,
      );
    }
