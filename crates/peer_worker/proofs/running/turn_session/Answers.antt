use Rattle.std.proofs.Common.{ℕ, List, sym, subst}
use Rattle.std.proofs.lemmas.Result.{err_from_is_err_and}
use Rattle.std.specs.Io.KnownBytes.{Appends}
use Rattle.peer_worker.proofs.Works.{stops_by_read, works_same}
use Rattle.worker_frame.specs.Traffic.{so_far}
use Rattle.peer_worker.proofs.running.turn_session.Goals as goal

pub returns-in-Err-clause-works : goal.returns-in-Err-clause-works
returns-in-Err-clause-works g c =
    λ seated start w.
    let hub = c.args.context.now.hub.now in
    let before = g.S.Source.given c.args.link.now.source in
    let after = g.S.Source.given c.read.new.self in
    let wrote = g.W.Write.contents c.args.link.now.writer in
    stops_by_read hub seated c.args.worker.now start (so_far after wrote)
    (works_same hub seated c.args.worker.now start before after wrote c.in-Err.ensures.gives w)

pub returns-in-Ok-End-clause-works : goal.returns-in-Ok-End-clause-works
returns-in-Ok-End-clause-works g c =
    λ seated start w.
    let before = g.S.Source.given c.args.link.now.source in
    let after = g.S.Source.given c.read.new.self in
    let gives = rw c.in-Ok-End.field-0-is at c.in-Ok-End.ensures.gives in
    works_same c.args.context.now.hub.now seated c.args.worker.now start before after
    (g.W.Write.contents c.args.link.now.writer) gives w

pub returns-in_err-stand_by-in-Ok-Nothing-clause-works :
    goal.returns-in_err-stand_by-in-Ok-Nothing-clause-works
returns-in_err-stand_by-in-Ok-Nothing-clause-works g c =
    λ seated start w.
    let before = g.S.Source.given c.args.link.now.source in
    let after = g.S.Source.given c.read.new.self in
    let gives = rw c.in-Ok-Nothing.field-0-is at c.in-Ok-Nothing.ensures.gives in
    let p = err_from_is_err_and c.from_residual.result c.from_residual.ensures.1 in
    rw (p.1, p.2) (c.in_err-stand_by-in-Ok-Nothing.ensures.takes seated start
    before after gives w)

pub returns-in_err-treat_piece-in-Ok-Bytes-clause-works :
    goal.returns-in_err-treat_piece-in-Ok-Bytes-clause-works
returns-in_err-treat_piece-in-Ok-Bytes-clause-works g c =
    λ seated start w.
    let before = g.S.Source.given c.args.link.now.source in
    let after = g.S.Source.given c.read.new.self in
    let gives = rw c.in-Ok-Bytes.field-0-is at c.in-Ok-Bytes.ensures.gives in
    let piece : Appends before after c.front.result.now =
    subst (λ (bytes : List ℕ). Appends before after bytes) (sym c.front.ensures) gives in
    let p = err_from_is_err_and c.from_residual-in_err-treat_piece-in-Ok-Bytes.result
    c.from_residual-in_err-treat_piece-in-Ok-Bytes.ensures.1 in
    rw (p.1, p.2) (c.in_err-treat_piece-in-Ok-Bytes.ensures.takes seated start before after piece w)
