use Rattle.std.proofs.Common.{◌∙◌, ◌++◌, ap}
use Rattle.telling.specs.Unsaid.{unsaid_messages, unsaid_updates}
use Rattle.telling.proofs.teller.Teller.unsaid_of.Goals as goal

pub returns-clause-left : goal.returns-clause-left
unfolding unsaid_messages
returns-clause-left c =
    ap (unsaid_messages c.args.pushed.now) c.of.ensures
    ∙ (λ i. c.before-undefined.ensures.first i ++ unsaid_updates
    (c.before-undefined.ensures.defined i) 0 c.args.pushed.now c.args.tables.items)
