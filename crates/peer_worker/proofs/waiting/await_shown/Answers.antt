use Rattle.std.proofs.Common.{subst, ◌∙◌}
use Rattle.peer_worker.proofs.Pulses.{heard_on}
use Rattle.peer_worker.specs.Waiting.{SignalsThen, WroteIf}
use Rattle.peer_worker.proofs.waiting.await_shown.Goals as goal

pub loop-preserved-then-is_heard : goal.loop-preserved-then-is_heard
loop-preserved-then-is_heard g c =
    let (can, finite, same, then) = c.loop.invariant in (
      tt,
      tt,
      c.in-NotYet.ensures ∙ same,
      heard_on (g.W.Write.contents c.args.writer.now) _ _ c.is_sent-is_heard.result
          (subst (λ heard. SignalsThen (g.W.Write.contents c.args.writer.now)
          (λ written. WroteIf heard written (g.W.Write.contents c.loop.writer)))
          c.if-is_heard.true then) c.is_sent-is_heard.ensures,
    )
