use Rattle.std.proofs.Common.{subst}
use Rattle.fleet_model.specs.State.{State}
use Rattle.book.specs.Foretold.{IsForetold}
use Rattle.book.proofs.book.Book.verdict.Goals as goal

pub returns-clause-holds : goal.returns-clause-holds
returns-clause-holds c =
    (subst (λ (s : State). IsForetold s c.args.filter.now c.args.key.now c.verdict.result)
    c.self.view_is c.verdict.ensures).holds

pub returns-clause-next : goal.returns-clause-next
returns-clause-next c =
    (subst (λ (s : State). IsForetold s c.args.filter.now c.args.key.now c.verdict.result)
    c.self.view_is c.verdict.ensures).next
