use Rattle.std.proofs.Common.{◌≡◌, ℕ, Option, Result, ap, sym, subst, ◌∙◌}
use Rattle.std.specs.Option.{option_map}
use Rattle.hub.specs.Posts.{Seated}
use Rattle.peer_worker.proofs.Works.{poster_of_works, served_until, served_whole}
use Rattle.worker_frame.specs.declared.poster.Poster.{Poster}
use Rattle.worker_frame.specs.declared.served.Cause.{Cause}
use Rattle.worker_frame.specs.Traffic.{so_far}
use Rattle.peer_worker.specs.Working.{WorksOn}
use Rattle.peer_worker.specs.Turns.{PosterTells, IsPosterOf, SeatIsServed, seat_at}
use Rattle.peer_worker.proofs.session.serve_session.Goals as goal

pub leave-served-requires : goal.leave-served-requires
leave-served-requires g c =
    let hub = c.args.context.now.hub.now in record {
      of = subst (λ (poster : Option Poster). IsPosterOf hub poster) (sym c.into_poster.ensures)
          (poster_of_works hub c.new-worker.result.session.seated c.run_session-ended.new.worker
          (so_far (g.S.Source.given c.args.link.now.source)
          (g.W.Write.contents c.args.link.now.writer))
          (so_far (g.S.Source.given c.run_session-ended.new.link.source)
          (g.W.Write.contents c.run_session-ended.new.link.writer))
          c.run_session-ended.result c.run_session-ended.ensures.works);
    }

pub returns-in-Ok-clause-served : goal.returns-in-Ok-clause-served
returns-in-Ok-clause-served g c =
    let hub = c.args.context.now.hub.now in
    let seat : Option ℕ = option_map (λ (p : Seated). p.seat) c.args.pass in
    let left : seat_at c.into_poster.result ≡ seat = ap seat_at c.into_poster.ensures
    ∙ (c.run_session-ended.ensures.seat ∙ c.new-worker.ensures.seat) in
    served_whole hub c.new-worker.result.session.seated c.run_session-ended.new.worker
    (so_far (g.S.Source.given c.args.link.now.source)
    (g.W.Write.contents c.args.link.now.writer))
    (so_far (g.S.Source.given c.run_session-ended.new.link.source)
    (g.W.Write.contents c.run_session-ended.new.link.writer)) seat
    c.leave-served.result c.new-worker.ensures.seated
    (c.run_session-ended.ensures.seat ∙ c.new-worker.ensures.seat)
    (λ whats n told.
    subst (λ (s : Option ℕ). SeatIsServed hub s c.leave-served.result whats n) left
    (c.leave-served.ensures whats n
    (subst (λ (poster : Option Poster). PosterTells hub poster whats n)
    (sym c.into_poster.ensures) told)))
    (subst (λ (r : Result (Unit {0}) Cause). WorksOn hub c.new-worker.result.session.seated
    c.run_session-ended.new.worker (so_far (g.S.Source.given c.args.link.now.source)
    (g.W.Write.contents c.args.link.now.writer))
    (so_far (g.S.Source.given c.run_session-ended.new.link.source)
    (g.W.Write.contents c.run_session-ended.new.link.writer)) r) c.in-Ok.is
    c.run_session-ended.ensures.works)

pub returns-in-Err-clause-served : goal.returns-in-Err-clause-served
returns-in-Err-clause-served g c =
    let hub = c.args.context.now.hub.now in
    let seat : Option ℕ = option_map (λ (p : Seated). p.seat) c.args.pass in
    let left : seat_at c.into_poster.result ≡ seat = ap seat_at c.into_poster.ensures
    ∙ (c.run_session-ended.ensures.seat ∙ c.new-worker.ensures.seat) in
    served_until hub c.new-worker.result.session.seated c.run_session-ended.new.worker
    (so_far (g.S.Source.given c.args.link.now.source)
    (g.W.Write.contents c.args.link.now.writer))
    (so_far (g.S.Source.given c.run_session-ended.new.link.source)
    (g.W.Write.contents c.run_session-ended.new.link.writer)) seat
    (record { cause = c.in-Err.cause; served = c.leave-served.result })
    c.new-worker.ensures.seated
    (c.run_session-ended.ensures.seat ∙ c.new-worker.ensures.seat)
    (λ whats n told.
    subst (λ (s : Option ℕ). SeatIsServed hub s c.leave-served.result whats n) left
    (c.leave-served.ensures whats n
    (subst (λ (poster : Option Poster). PosterTells hub poster whats n)
    (sym c.into_poster.ensures) told)))
    (subst (λ (r : Result (Unit {0}) Cause). WorksOn hub c.new-worker.result.session.seated
    c.run_session-ended.new.worker (so_far (g.S.Source.given c.args.link.now.source)
    (g.W.Write.contents c.args.link.now.writer))
    (so_far (g.S.Source.given c.run_session-ended.new.link.source)
    (g.W.Write.contents c.run_session-ended.new.link.writer)) r) c.in-Err.is
    c.run_session-ended.ensures.works)
