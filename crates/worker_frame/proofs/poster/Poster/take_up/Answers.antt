use Rattle.worker_frame.proofs.Owns.{taken_up}
use Rattle.worker_frame.proofs.poster.Poster.take_up.Goals as goal

pub returns-clause-told : goal.returns-clause-told
returns-clause-told c =
    λ hub whats batch waits.
    taken_up hub c.args.self.now.pass c.see.new.self c.args.self.now.last whats batch
    c.args.receipt c.see.ensures.same c.see.ensures.learns waits
