use Rattle.worker_frame.proofs.Owns.{appended, refused_back}
use Rattle.worker_frame.proofs.poster.Poster.append.Goals as goal

pub returns-in-Ok-clause-appended : goal.returns-in-Ok-clause-appended
returns-in-Ok-clause-appended g c =
    λ whats told.
    appended c.args.hub.now c.args.self.now.pass c.append.new.pass c.args.self.now.last whats
    c.args.whats c.in-Ok.ticket told c.in-Ok.ensures

pub returns-in-Err-clause-appended : goal.returns-in-Err-clause-appended
returns-in-Err-clause-appended g c =
    λ whats told.
    refused_back c.args.hub.now c.args.self.now.pass c.append.new.pass c.args.self.now.last whats
    c.args.whats c.in-Err.whats c.refuse.result told c.in-Err.ensures.pass
    c.in-Err.ensures.back_is c.refuse.ensures
