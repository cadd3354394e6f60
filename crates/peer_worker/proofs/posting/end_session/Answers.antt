use Rattle.peer_worker.proofs.Pulses.{ends_for_memory, signals_none}
use Rattle.peer_worker.proofs.posting.end_session.Goals as goal

pub returns-in-NoMemory-clause-ends : goal.returns-in-NoMemory-clause-ends
returns-in-NoMemory-clause-ends g c =
    let before = g.W.Write.contents c.args.writer.now in record {
      written = before;
      signals = signals_none before;
      goes_on = λ whats told. ends_for_memory c.args.context.now.hub.now c.args.worker.now.poster
          whats c.args.fault before c.in-NoMemory.is;
    }
