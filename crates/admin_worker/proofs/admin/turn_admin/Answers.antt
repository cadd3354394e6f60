use Rattle.std.proofs.Common.{ℕ, List, [], ap, refl, sym, subst, inl}
use Rattle.std.proofs.lemmas.Result.{err_from_is_err_and}
use Rattle.std.specs.Io.KnownBytes.{Appends}
use Rattle.hub.specs.Views.{Seeing}
use Rattle.admin_worker.proofs.Commanded.{stops_failed, works_alike, works_if, works_piece}
use Rattle.worker_frame.specs.Traffic.{so_far}
use Rattle.admin_worker.specs.declared.line.Line.{Line}
use Rattle.admin_worker.proofs.admin.turn_admin.Goals as goal

pub returns-in-Err-clause-works : goal.returns-in-Err-clause-works
returns-in-Err-clause-works g c =
    λ door seat start w.
    let hub = c.args.context.now.hub.now in
    let before = g.S.Source.given c.args.link.now.source in
    let after = g.S.Source.given c.read.new.self in
    let wrote = g.W.Write.contents c.args.link.now.writer in
    stops_failed hub seat c.args.worker.now start (so_far after wrote)
    (works_piece hub seat c.args.worker.now [] start before after wrote c.in-Err.ensures.gives w)

pub returns-in-Ok-End-clause-works : goal.returns-in-Ok-End-clause-works
returns-in-Ok-End-clause-works g c =
    λ door seat start w.
    let before = g.S.Source.given c.args.link.now.source in
    let after = g.S.Source.given c.read.new.self in
    let gives = rw c.in-Ok-End.field-0-is at c.in-Ok-End.ensures.gives in
    inl (works_piece c.args.context.now.hub.now seat c.args.worker.now [] start before after
    (g.W.Write.contents c.args.link.now.writer) gives w)

pub returns-in-Ok-Nothing-clause-works : goal.returns-in-Ok-Nothing-clause-works
returns-in-Ok-Nothing-clause-works g c =
    λ door seat start w.
    let hub = c.args.context.now.hub.now in
    let before = g.S.Source.given c.args.link.now.source in
    let after = g.S.Source.given c.read.new.self in
    let wrote = g.W.Write.contents c.args.link.now.writer in
    let gives = rw c.in-Ok-Nothing.field-0-is at c.in-Ok-Nothing.ensures.gives in
    works_if c.wait.result hub seat c.wait.new.self start (so_far after wrote)
    (works_alike hub seat c.args.worker.now c.wait.new.self [] start (so_far after wrote)
    c.wait.ensures.poster
    (ap (λ (s : Seeing). s.seen) c.wait.ensures.lens)
    (ap (λ (l : Line). l.bytes.items) c.wait.ensures.line) c.wait.ensures.manner
    (works_piece hub seat c.args.worker.now [] start before after wrote gives w))

pub returns-in_err-take_parts-in-Ok-Bytes-clause-works :
    goal.returns-in_err-take_parts-in-Ok-Bytes-clause-works
returns-in_err-take_parts-in-Ok-Bytes-clause-works g c =
    λ door seat start w.
    let hub = c.args.context.now.hub.now in
    let before = g.S.Source.given c.args.link.now.source in
    let after = g.S.Source.given c.read.new.self in
    let wrote = g.W.Write.contents c.args.link.now.writer in
    let gives = rw c.in-Ok-Bytes.field-0-is at c.in-Ok-Bytes.ensures.gives in
    let piece : Appends before after c.front.result.now =
    subst (λ (bytes : List ℕ). Appends before after bytes) (sym c.front.ensures) gives in
    let p = err_from_is_err_and c.from_residual.result c.from_residual.ensures.1 in
    rw (p.1, p.2) (c.in_err-take_parts-in-Ok-Bytes.ensures.takes door seat start after
    (works_alike hub seat c.args.worker.now _ c.front.result.now start (so_far after wrote) refl
    refl
    refl refl (works_piece hub seat c.args.worker.now c.front.result.now start before after wrote
    piece w)))

pub returns-in_ok-take_parts-in-Ok-Bytes-clause-works :
    goal.returns-in_ok-take_parts-in-Ok-Bytes-clause-works
returns-in_ok-take_parts-in-Ok-Bytes-clause-works g c =
    λ door seat start w.
    let hub = c.args.context.now.hub.now in
    let before = g.S.Source.given c.args.link.now.source in
    let after = g.S.Source.given c.read.new.self in
    let wrote = g.W.Write.contents c.args.link.now.writer in
    let gives = rw c.in-Ok-Bytes.field-0-is at c.in-Ok-Bytes.ensures.gives in
    let piece : Appends before after c.front.result.now =
    subst (λ (bytes : List ℕ). Appends before after bytes) (sym c.front.ensures) gives in
    c.in_ok-take_parts-in-Ok-Bytes.ensures.takes door seat start after
    (works_alike hub seat c.args.worker.now _ c.front.result.now start (so_far after wrote) refl
    refl
    refl refl (works_piece hub seat c.args.worker.now c.front.result.now start before after wrote
    piece w))
