use Rattle.std.proofs.Common.{ℕ, Bool, List, ◌∙◌, ap, subst, sym}
use Rattle.std.proofs.lemmas.Result.{err_from_is_err_and}
use Rattle.hub.specs.Views.{Seeing}
use Rattle.admin_worker.proofs.Commanded.{stops_unkept, works_kept}
use Rattle.admin_worker.proofs.Kept.{from_ok}
use Rattle.admin_worker.specs.Commanding.{Works, WorksIf}
use Rattle.worker_frame.specs.Traffic.{so_far}
use Rattle.admin_worker.proofs.admin.take_parts.Goals as goal

pub returns-in_err-goes-clause-takes : goal.returns-in_err-goes-clause-takes
returns-in_err-goes-clause-takes g c =
    λ door seat start given w.
    let before = g.W.Write.contents c.loop-front.writer in
    let p = err_from_is_err_and c.from_residual.result c.from_residual.ensures.1 in
    rw (p.1, p.2) (c.in_err-goes.ensures.takes c.in-Some.behind.now c.in-Some.ensures.command
    c.in-Some.ensures.ends door seat
    start given
    (subst (λ (rest : List ℕ). Works door c.args.context.now.hub.now seat
    c.loop-front.worker rest start
    (so_far given before)) c.in-Some.ensures.parts
    (c.loop-front.invariant.works door seat start given w)))

pub returns-then-is_err-clause-takes : goal.returns-then-is_err-clause-takes
returns-then-is_err-clause-takes g c =
    λ door seat start given w.
    stops_unkept c.args.context.now.hub.now seat c.loop-front.worker c.keep.new.self
    c.loop-front.rest.now start (so_far given (g.W.Write.contents c.loop-front.writer))
    c.refused.result c.keep.ensures.poster c.refused.ensures
    (c.loop-front.invariant.works door seat start given w)

pub returns-clause-takes : goal.returns-clause-takes
returns-clause-takes g c =
    λ door seat start given w.
    works_kept c.args.context.now.hub.now seat c.loop-front.worker c.keep.new.self
    c.loop-front.rest.now start (so_far given (g.W.Write.contents c.loop-front.writer))
    c.keep.ensures.poster (ap (λ (s : Seeing). s.seen) c.keep.ensures.lens) c.keep.ensures.manner
    c.in_default.ensures.whole
    (λ line is. from_ok c.keep.result (sym c.is_err.ensures.value ∙ c.if-is_err.false)
    (c.keep.ensures.keeps line is)) (c.loop-front.invariant.works door seat start given w)

pub returns-then-not-goes-clause-takes : goal.returns-then-not-goes-clause-takes
returns-then-not-goes-clause-takes g c =
    λ door seat start given w.
    let before = g.W.Write.contents c.loop-front.writer in
    let after = g.W.Write.contents c.end_part.new.writer in
    subst (λ (goes : Bool). WorksIf door goes c.args.context.now.hub.now seat
    c.end_part.new.worker
    c.in-Some.behind.now start (so_far given after)) c.if-not-goes.true
    (c.in_ok-goes.ensures.takes c.in-Some.behind.now c.in-Some.ensures.command
    c.in-Some.ensures.ends door seat start given
    (subst (λ (rest : List ℕ). Works door c.args.context.now.hub.now seat
    c.loop-front.worker rest start
    (so_far given before)) c.in-Some.ensures.parts
    (c.loop-front.invariant.works door seat start given w)))

pub loop-front-preserved : goal.loop-front-preserved
loop-front-preserved g c =
    let i = c.loop-front.invariant in
    let before = g.W.Write.contents c.loop-front.writer in
    let after = g.W.Write.contents c.end_part.new.writer in record {
      keeps = record {
        of = c.end_part.ensures.keeps.of;
        lens = c.end_part.ensures.keeps.lens;
        seat = c.end_part.ensures.keeps.seat ∙ i.keeps.seat;
      };
      works = λ door seat start given w.
          subst (λ (goes : Bool). WorksIf door goes c.args.context.now.hub.now seat
          c.end_part.new.worker c.in-Some.behind.now start (so_far given after)) c.if-not-goes.false
          (c.in_ok-goes.ensures.takes c.in-Some.behind.now c.in-Some.ensures.command
          c.in-Some.ensures.ends door seat start given
          (subst (λ (rest : List ℕ). Works door c.args.context.now.hub.now seat
          c.loop-front.worker rest
          start (so_far given before)) c.in-Some.ensures.parts (i.works door seat start given w)));
    }
