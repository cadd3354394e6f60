use Rattle.worker_frame.proofs.Owns.{posted, refused}
use Rattle.worker_frame.proofs.poster.Poster.post.Goals as goal

pub returns-in-Ok-clause-told : goal.returns-in-Ok-clause-told
returns-in-Ok-clause-told g c =
    λ whats told.
    posted c.args.hub.now c.args.self.now.pass c.post.new.pass c.args.self.now.last whats
    c.args.whats c.in-Ok.receipt told c.in-Ok.ensures

pub returns-in-Err-clause-told : goal.returns-in-Err-clause-told
returns-in-Err-clause-told g c =
    λ whats told.
    refused c.args.hub.now c.args.self.now.pass c.post.new.pass c.args.self.now.last whats
    c.args.whats c.in-Err.fault told c.in-Err.ensures
