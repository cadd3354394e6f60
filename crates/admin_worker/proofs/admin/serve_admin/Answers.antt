use Rattle.std.proofs.Common.{◌≡◌, ℕ, [], Result, Ok, Err, ap, sym, subst, ◌∙◌}
use Rattle.hub.specs.Posts.{Seated}
use Rattle.admin_worker.proofs.Commanded.{commanded_until, commanded_whole}
use Rattle.admin_worker.specs.Commanding.{HasLearned, RunsOut}
use Rattle.admin_worker.specs.Manners.{first_manner}
use Rattle.admin_worker.specs.declared.manner.Manner.{Manner}
use Rattle.worker_frame.specs.Told.{HasTold, IsServed}
use Rattle.worker_frame.specs.Traffic.{so_far}
use Rattle.worker_frame.specs.declared.door.Door.{Door}
use Rattle.worker_frame.specs.declared.poster.Poster.{Poster}
use Rattle.worker_frame.specs.declared.served.Cause.{Cause}
use Rattle.admin_worker.proofs.admin.serve_admin.Goals as goal

pub run_admin-ended-requires-clause-learned : goal.run_admin-ended-requires-clause-learned
run_admin-ended-requires-clause-learned g c =
    subst (λ (s : ℕ). HasLearned c.args.context.now.hub.now c.args.context.now.hub.now s
    c.new-worker.result [])
    (sym (ap (λ (p : Seated). p.seat) c.new-worker.ensures.pass))
    (c.new-worker.ensures.learned c.args.context.now.hub.now c.requires.pass.0 c.requires.pass.1
    c.requires.lens)

pub run_admin-ended-requires-clause-manner : goal.run_admin-ended-requires-clause-manner
run_admin-ended-requires-clause-manner g c =
    c.new-worker.ensures.manner
    ∙ ap (λ (m : Manner). first_manner m.door) (sym c.new-worker.ensures.manner)

pub returns-in-Ok-clause-served : goal.returns-in-Ok-clause-served
returns-in-Ok-clause-served g c =
    let hub = c.args.context.now.hub.now in
    let seat0 : c.new-worker.result.poster.pass.seat ≡ c.args.pass.seat =
    ap (λ (p : Seated). p.seat) c.new-worker.ensures.pass in
    let left : c.into_poster.result.pass.seat ≡ c.args.pass.seat =
    ap (λ (d : Poster). d.pass.seat) c.into_poster.ensures ∙
    (c.run_admin-ended.ensures.keeps.seat ∙ seat0) in
    let door : c.new-worker.result.manner.door ≡ c.args.door =
    ap (λ (m : Manner). m.door) c.new-worker.ensures.manner in
    let works = subst (λ (r : Result (Unit {0}) Cause). RunsOut c.new-worker.result.manner.door hub
    c.new-worker.result.poster.pass.seat c.run_admin-ended.new.worker
    (so_far (g.S.Source.given c.args.link.now.source)
    (g.W.Write.contents c.args.link.now.writer))
    (so_far (g.S.Source.given c.run_admin-ended.new.link.source)
    (g.W.Write.contents c.run_admin-ended.new.link.writer)) r) c.in-Ok.is
    c.run_admin-ended.ensures.works in
    commanded_whole hub c.args.pass.seat c.run_admin-ended.new.worker
    (so_far (g.S.Source.given c.args.link.now.source)
    (g.W.Write.contents c.args.link.now.writer))
    (so_far (g.S.Source.given c.run_admin-ended.new.link.source)
    (g.W.Write.contents c.run_admin-ended.new.link.writer))
    c.leave-served.result
    (λ whats n told.
    subst (λ (s : ℕ). IsServed hub s whats n c.leave-served.result) left
    (c.leave-served.ensures whats n (subst (λ (poster : Poster). HasTold hub poster whats n)
    (sym c.into_poster.ensures) told)))
    (subst (λ (s : ℕ). RunsOut c.args.door hub s c.run_admin-ended.new.worker
    (so_far (g.S.Source.given c.args.link.now.source)
    (g.W.Write.contents c.args.link.now.writer))
    (so_far (g.S.Source.given c.run_admin-ended.new.link.source)
    (g.W.Write.contents c.run_admin-ended.new.link.writer)) (Ok (tt {0}))) seat0
    (subst (λ (d : Door). RunsOut d hub c.new-worker.result.poster.pass.seat
    c.run_admin-ended.new.worker
    (so_far (g.S.Source.given c.args.link.now.source)
    (g.W.Write.contents c.args.link.now.writer))
    (so_far (g.S.Source.given c.run_admin-ended.new.link.source)
    (g.W.Write.contents c.run_admin-ended.new.link.writer)) (Ok (tt {0}))) door works))

pub returns-in-Err-clause-served : goal.returns-in-Err-clause-served
returns-in-Err-clause-served g c =
    let hub = c.args.context.now.hub.now in
    let ended : Result (Unit {0}) Cause = Err c.in-Err.cause in
    let seat0 : c.new-worker.result.poster.pass.seat ≡ c.args.pass.seat =
    ap (λ (p : Seated). p.seat) c.new-worker.ensures.pass in
    let left : c.into_poster.result.pass.seat ≡ c.args.pass.seat =
    ap (λ (d : Poster). d.pass.seat) c.into_poster.ensures ∙
    (c.run_admin-ended.ensures.keeps.seat ∙ seat0) in
    let door : c.new-worker.result.manner.door ≡ c.args.door =
    ap (λ (m : Manner). m.door) c.new-worker.ensures.manner in
    let works = subst (λ (r : Result (Unit {0}) Cause). RunsOut c.new-worker.result.manner.door hub
    c.new-worker.result.poster.pass.seat c.run_admin-ended.new.worker
    (so_far (g.S.Source.given c.args.link.now.source)
    (g.W.Write.contents c.args.link.now.writer))
    (so_far (g.S.Source.given c.run_admin-ended.new.link.source)
    (g.W.Write.contents c.run_admin-ended.new.link.writer)) r) c.in-Err.is
    c.run_admin-ended.ensures.works in
    commanded_until hub c.args.pass.seat c.run_admin-ended.new.worker
    (so_far (g.S.Source.given c.args.link.now.source)
    (g.W.Write.contents c.args.link.now.writer))
    (so_far (g.S.Source.given c.run_admin-ended.new.link.source)
    (g.W.Write.contents c.run_admin-ended.new.link.writer))
    (record { cause = c.in-Err.cause; served = c.leave-served.result })
    (λ whats n told.
    subst (λ (s : ℕ). IsServed hub s whats n c.leave-served.result) left
    (c.leave-served.ensures whats n (subst (λ (poster : Poster). HasTold hub poster whats n)
    (sym c.into_poster.ensures) told)))
    (subst (λ (s : ℕ). RunsOut c.args.door hub s c.run_admin-ended.new.worker
    (so_far (g.S.Source.given c.args.link.now.source)
    (g.W.Write.contents c.args.link.now.writer))
    (so_far (g.S.Source.given c.run_admin-ended.new.link.source)
    (g.W.Write.contents c.run_admin-ended.new.link.writer)) ended) seat0
    (subst (λ (d : Door). RunsOut d hub c.new-worker.result.poster.pass.seat
    c.run_admin-ended.new.worker
    (so_far (g.S.Source.given c.args.link.now.source)
    (g.W.Write.contents c.args.link.now.writer))
    (so_far (g.S.Source.given c.run_admin-ended.new.link.source)
    (g.W.Write.contents c.run_admin-ended.new.link.writer)) ended) door works))
