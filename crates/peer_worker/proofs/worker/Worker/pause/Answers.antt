use Rattle.std.proofs.Common.{refl, inl, ◌∙◌}
use Rattle.std.proofs.lemmas.Result.{err_from_is_err_and}
use Rattle.peer_worker.proofs.Pulses.{idle_kept}
use Rattle.peer_worker.proofs.Works.{unsignalled, works_same, works_still}
use Rattle.worker_frame.specs.Traffic.{so_far}
use Rattle.peer_worker.specs.declared.worker.Worker.{Worker}
use Rattle.peer_worker.proofs.worker.Worker.pause.Goals as goal

pub returns-in_ok-signal-in-Nothing-clause-takes : goal.returns-in_ok-signal-in-Nothing-clause-takes
returns-in_ok-signal-in-Nothing-clause-takes g c =
    λ hub seated start given more gives w.
    let old = c.args.self.now in
    let before = g.W.Write.contents c.args.writer.now in
    let after = g.W.Write.contents c.signal.new.writer in
    let new : Worker = record {
      session = c.idle.new.self;
      poster = old.poster;
      hello = old.hello;
      scout = old.scout;
      peer = old.peer;
      told = old.told;
      reported = old.reported;
      pulse = c.signal.new.self;
      pushing = old.pushing;
    } in
    let kept = idle_kept old.session c.idle.new.self c.args.now c.idle.result c.in-Nothing.is
    c.idle.ensures.answer c.idle.ensures.after in
    works_still hub seated old new start (so_far more after) kept.0 kept.1 refl refl
    (c.in_ok-signal-in-Nothing.ensures hub seated old start more
    (works_same hub seated old start given more before gives w))

pub returns-in_ok-signal-in-Nothing-clause-heard : goal.returns-in_ok-signal-in-Nothing-clause-heard
returns-in_ok-signal-in-Nothing-clause-heard g c =
    λ in_time.
    let kept = idle_kept c.args.self.now.session c.idle.new.self c.args.now c.idle.result
    c.in-Nothing.is c.idle.ensures.answer c.idle.ensures.after in
    (inl kept.2, kept.3 ∙ in_time)

pub returns-in_err-signal-in-Nothing-clause-takes :
    goal.returns-in_err-signal-in-Nothing-clause-takes
returns-in_err-signal-in-Nothing-clause-takes g c =
    λ hub seated start given more gives w.
    let old = c.args.self.now in
    let before = g.W.Write.contents c.args.writer.now in
    let new : Worker = record {
      session = c.idle.new.self;
      poster = old.poster;
      hello = old.hello;
      scout = old.scout;
      peer = old.peer;
      told = old.told;
      reported = old.reported;
      pulse = c.signal.new.self;
      pushing = old.pushing;
    } in
    let p = err_from_is_err_and c.from_residual.result c.from_residual.ensures.1 in
    rw (p.1, p.2) (unsignalled hub seated old new start more before
    (g.W.Write.contents c.signal.new.writer) refl
    (works_same hub seated old start given more before gives w)
    c.in_err-signal-in-Nothing.ensures)
