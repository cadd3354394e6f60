use Rattle.std.proofs.Common.{◌+◌, Bool, [], refl, ap, subst, inl, ◌∙◌, arith}
use Rattle.admin_worker.proofs.Commanded.{stops_unkept, works_none}
use Rattle.admin_worker.specs.Commanding.{WorksIf}
use Rattle.worker_frame.specs.Traffic.{so_far}
use Rattle.admin_worker.proofs.admin.run_admin.Goals as goal

pub loop-made-init : goal.loop-made-init
loop-made-init g c = record {
  works = works_none c.args.context.now.hub.now c.args.worker.now.poster.pass.seat c.args.worker.now
      (so_far (g.S.Source.given c.args.link.now.source)
      (g.W.Write.contents c.args.link.now.writer)) c.requires.line c.requires.manner
      c.requires.learned;
  keeps = record { of = c.requires.at.of; lens = c.requires.at.lens; seat = refl };
  counted = c.requires.reads;
  fails = omega arith;
}

pub loop-made-preserved : goal.loop-made-preserved
loop-made-preserved g c =
    let i = c.loop-made.invariant in
    let turned = c.turn_admin.ensures in record {
      works = subst (λ (goes : Bool). WorksIf c.args.worker.now.manner.door goes c.args.context.now.hub.now
          c.args.worker.now.poster.pass.seat c.turn_admin.new.worker []
          (so_far (g.S.Source.given c.args.link.now.source)
          (g.W.Write.contents c.args.link.now.writer))
          (so_far (g.S.Source.given c.turn_admin.new.link.source)
          (g.W.Write.contents c.turn_admin.new.link.writer))) c.if-not-goes.false
          (c.in_ok-goes.ensures.works c.args.worker.now.manner.door c.args.worker.now.poster.pass.seat
          (so_far (g.S.Source.given c.args.link.now.source)
          (g.W.Write.contents c.args.link.now.writer)) i.works);
      keeps = record {
        of = turned.keeps.of;
        lens = turned.keeps.lens;
        seat = turned.keeps.seat ∙ i.keeps.seat;
      };
      counted = turned.reads ∙ ap (λ n. n + 1) i.counted;
      fails = omega (arith, i.fails, turned.failed);
    }

pub returns-then-stop-clause-works : goal.returns-then-stop-clause-works
returns-then-stop-clause-works g c = inl c.loop-made.invariant.works

pub returns-then-not-goes-clause-works : goal.returns-then-not-goes-clause-works
returns-then-not-goes-clause-works g c =
    subst (λ (goes : Bool). WorksIf c.args.worker.now.manner.door goes c.args.context.now.hub.now
    c.args.worker.now.poster.pass.seat c.turn_admin.new.worker []
    (so_far (g.S.Source.given c.args.link.now.source)
    (g.W.Write.contents c.args.link.now.writer))
    (so_far (g.S.Source.given c.turn_admin.new.link.source)
    (g.W.Write.contents c.turn_admin.new.link.writer))) c.if-not-goes.true
    (c.in_ok-goes.ensures.works c.args.worker.now.manner.door c.args.worker.now.poster.pass.seat
    (so_far (g.S.Source.given c.args.link.now.source)
    (g.W.Write.contents c.args.link.now.writer)) c.loop-made.invariant.works)

pub returns-in_default-clause-works : goal.returns-in_default-clause-works
returns-in_default-clause-works g c =
    let start = so_far (g.S.Source.given c.args.link.now.source)
    (g.W.Write.contents c.args.link.now.writer) in
    stops_unkept c.args.context.now.hub.now c.args.worker.now.poster.pass.seat c.args.worker.now
    c.args.worker.now [] start start c.refused.result refl c.refused.ensures
    (works_none c.args.context.now.hub.now c.args.worker.now.poster.pass.seat c.args.worker.now
    start c.requires.line c.requires.manner c.requires.learned)
