use Rattle.std.proofs.lemmas.Result.{err_from_is_err_and}
use Rattle.peer_worker.proofs.Pulses.{signals_none, signals_one}
use Rattle.peer_worker.proofs.waiting.Pulse.signal.Goals as goal

pub returns-in_default : goal.returns-in_default
returns-in_default g c = signals_none (g.W.Write.contents c.args.writer.now)

pub returns-in_err-send_signal : goal.returns-in_err-send_signal
returns-in_err-send_signal g c =
    let p = err_from_is_err_and c.from_residual.result c.from_residual.ensures.1 in
    rw p.1 (record { signal = c.in-Some.signal; front = c.in_err-send_signal.ensures })

pub returns : goal.returns
returns g c =
    signals_one c.in-Some.signal (g.W.Write.contents c.args.writer.now)
    (g.W.Write.contents c.send_signal.new.writer) c.in_ok-send_signal.ensures
