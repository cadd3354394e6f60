use Rattle.admin_worker.proofs.Commanded.{obeys_unlooked}
use Rattle.worker_frame.proofs.Sent.{wrote_none}
use Rattle.admin_worker.proofs.obeying.obey.Goals as goal

pub reply-requires-clause-fits : goal.reply-requires-clause-fits
reply-requires-clause-fits g c =
    let fits = rw c.in-Ok-Some.field-0-is at c.in-Ok-Some.ensures.fits in
    fits c.args.context.now.hub.now c.requires.lens

pub returns-in-Ok-Some-clause-obeys : goal.returns-in-Ok-Some-clause-obeys
returns-in-Ok-Some-clause-obeys g c =
    λ since seat whats line learned kept stays.
    let looks = rw c.in-Ok-Some.field-0-is at c.in-Ok-Some.ensures.looks in
    c.reply.ensures.obeys c.args.worker.now.manner since seat whats line
    (looks c.args.context.now.hub.now since seat whats line learned kept stays)

pub returns-in-Ok-None-clause-obeys : goal.returns-in-Ok-None-clause-obeys
returns-in-Ok-None-clause-obeys g c =
    λ since seat whats line learned kept stays.
    let looks = rw c.in-Ok-None.field-0-is at c.in-Ok-None.ensures.looks in (
      looks c.args.context.now.hub.now since seat whats line learned kept stays,
      wrote_none (g.W.Write.contents c.args.writer.now),
    )

pub returns-in-Err-clause-obeys : goal.returns-in-Err-clause-obeys
returns-in-Err-clause-obeys g c =
    λ since seat whats line learned kept stays.
    let hub = c.args.context.now.hub.now in
    obeys_unlooked hub c.look.new.self.poster whats (g.W.Write.contents c.args.writer.now)
    c.refused.result c.refused.ensures
    (c.in-Err.ensures.looks hub since seat whats line learned kept stays)
