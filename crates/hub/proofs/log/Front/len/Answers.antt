use Rattle.std.proofs.Common.{subst}
use Rattle.hub.specs.History.{AllCount, Beginning}
use Rattle.hub.proofs.Histories.{legal-begun}
use Rattle.hub.proofs.log.Front.len.Goals as goal

pub returns-clause-legal : goal.returns-clause-legal
returns-clause-legal c =
    let P : Beginning → Type 0 = λ b. AllCount b.config b.opening b.events in
    subst P c.self.view_is (legal-begun c.self.inside.seen.book c.self.inside.seen.log
    c.self.invariant.1)
