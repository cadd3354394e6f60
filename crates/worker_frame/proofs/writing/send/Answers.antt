use Rattle.std.proofs.Common.{◌++◌, take, ap, sym, ◌∙◌}
use Rattle.worker_frame.proofs.Sent.{wrote_more}
use Rattle.worker_frame.proofs.Sent.{sent_more}
use Rattle.worker_frame.proofs.writing.send.Goals as goal

pub loop-preserved : goal.loop-preserved
loop-preserved g c =
    let sent = c.loop.invariant.0 in
    let before = g.W.Write.contents c.args.writer.now in
    let middle = g.W.Write.contents c.loop.writer in
    let after = g.W.Write.contents c.write_once.new.writer in (
      sent ++ take c.in-Ok.count c.loop.rest.now,
      sent_more c.args.bytes.now sent c.loop.rest.now c.in-Ok.count c.loop.invariant.1
          ∙ ap (λ rest. (sent ++ take c.in-Ok.count c.loop.rest.now) ++ rest)
          (sym c.behind-rest.ensures),
      wrote_more before middle after sent (take c.in-Ok.count c.loop.rest.now) c.loop.invariant.2
          c.in-Ok.ensures.ok,
    )
