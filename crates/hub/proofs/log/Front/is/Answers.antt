use Rattle.hub.proofs.Publishes.{same_beginning}
use Rattle.hub.proofs.log.Front.is.Goals as goal

pub returns : goal.returns
returns c = λ yes.
    let there = rw c.if-not-compare.false at c.compare.ensures.order in
    let back = rw yes at c.compare-2.ensures.order in
    same_beginning c.args.self.now c.args.other.now c.requires c.compare.ensures.fleet.0
    c.compare.ensures.fleet.1 there back
