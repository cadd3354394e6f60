use Rattle.std.proofs.Common.{ℕ, subst, sym}
use Rattle.peer_worker.specs.Knowing.{Knows, KnowsAt}
use Rattle.telling.specs.Told.{Told}
use Rattle.peer_worker.proofs.Moving.{knows_brought, knows_on, knows_ordered}
use Rattle.peer_worker.proofs.pushing.begin.Goals as goal

pub returns-in_err-unsaid-clause-knows : goal.returns-in_err-unsaid-clause-knows
returns-in_err-unsaid-clause-knows c =
    knows_on c.args.pushed.now c.begin_looking.new.teller c.args.told.now c.args.lens.now.seen
    c.begin_looking.new.lens.seen c.begin_looking.ensures.lens
    (subst (λ (t : Told). Knows c.args.pushed.now t c.args.told.now c.args.lens.now.seen)
    (sym c.in_err-unsaid.ensures.says) c.requires)

pub returns-clause-knows : goal.returns-clause-knows
returns-clause-knows c =
    subst (λ (n : ℕ). KnowsAt c.args.pushed.now c.begin_looking.new.teller n
    c.begin_looking.new.lens.seen) (sym c.len.ensures.length)
    (knows_brought c.args.pushed.now c.args.teller.now c.begin_looking.new.teller
    c.begin_looking.new.lens.seen c.in_ok-unsaid.unsaid
    (knows_ordered c.args.pushed.now c.args.teller.now c.args.told.now c.args.lens.now.seen
    c.requires) c.in_ok-unsaid.ensures.says)
