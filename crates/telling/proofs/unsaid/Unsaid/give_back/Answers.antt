use Rattle.std.proofs.Common.{◌∙◌, ap, refl, sym}
use Rattle.telling.specs.Unsaid.{unsaid_messages}
use Rattle.telling.proofs.Steps.{said_none}
use Rattle.telling.proofs.unsaid.Unsaid.give_back.Goals as goal

pub returns-then-not-has_next-clause-same : goal.returns-then-not-has_next-clause-same
returns-then-not-has_next-clause-same c =
    ap (unsaid_messages c.args.pushed.now) (c.drop.view_is ∙ c.of.ensures)
    ∙ rw c.new.ensures.items (said_none _ (record { defined = refl; told = tt })
    c.args.pushed.now) ∙ sym (c.has_next.ensures.none c.if-not-has_next.true)
