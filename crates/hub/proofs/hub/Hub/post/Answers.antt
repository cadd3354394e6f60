use Rattle.hub.proofs.Posting.{posted}
use Rattle.hub.proofs.hub.Hub.post.Goals as goal

pub returns : goal.returns
returns g c = posted c.args.pass.now c.append.new.pass c.see.new.self c.args.whats
    c.in-Ok.ticket c.in-Some.receipt c.in-Ok.ensures c.in-Some.ensures c.see.ensures.same
    c.see.ensures.learns
