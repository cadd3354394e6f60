use Rattle.std.proofs.lemmas.Result.{err_from_is_err_and}
use Rattle.admin_worker.proofs.Commanded.{has_obeyed}
use Rattle.worker_frame.proofs.Sent.{wrote_none}
use Rattle.admin_worker.specs.Commanding.{reply_of}
use Rattle.admin_worker.proofs.obeying.reply.Goals as goal

pub returns-in_err-carry_out-clause-obeys : goal.returns-in_err-carry_out-clause-obeys
returns-in_err-carry_out-clause-obeys g c =
    λ manner since seat whats line looked.
    let p = err_from_is_err_and c.from_residual.result c.from_residual.ensures.1 in
    rw (p.1, p.2) (
      c.in_err-carry_out.ensures.changes c.args.worker.now.lens.seen seat whats looked.learned,
      wrote_none (g.W.Write.contents c.args.writer.now),
    )

pub returns-in_err-send-clause-obeys : goal.returns-in_err-send-clause-obeys
returns-in_err-send-clause-obeys g c =
    λ manner since seat whats line looked.
    let p = err_from_is_err_and c.from_residual-in_err-send.result
    c.from_residual-in_err-send.ensures.1 in
    rw (p.1, p.2) (
      reply_of line c.args.answered.change c.args.answered.text.items c.args.worker.now.lens.seen,
      has_obeyed c.args.context.now.hub.now since seat c.carry_out.new.worker whats line
          c.args.answered.change c.args.answered.text.items c.args.worker.now.lens.seen looked.is
          (c.in_ok-carry_out.ensures.changes c.args.worker.now.lens.seen seat whats looked.learned),
      rw c.as_slice.ensures.value at c.in_err-send.ensures,
    )

pub returns-clause-obeys : goal.returns-clause-obeys
returns-clause-obeys g c =
    λ manner since seat whats line looked. (
      reply_of line c.args.answered.change c.args.answered.text.items c.args.worker.now.lens.seen,
      has_obeyed c.args.context.now.hub.now since seat c.carry_out.new.worker whats line
          c.args.answered.change c.args.answered.text.items c.args.worker.now.lens.seen looked.is
          (c.in_ok-carry_out.ensures.changes c.args.worker.now.lens.seen seat whats looked.learned),
      rw c.as_slice.ensures.value at c.in_ok-send.ensures,
    )
