use Rattle.std.proofs.Common.{◌∙◌, ap}
use Rattle.telling.proofs.Whole.{whole_messages, whole_told}
use Rattle.telling.proofs.teller.Teller.begin.Goals as goal

pub returns-clause-said : goal.returns-clause-said
returns-clause-said c =
    whole_messages c.args.pushed.now _ c.args.now c.args.self.now _ _ _ _ c.turn_at-turn.ensures
    (c.as_slice.ensures ∙ ap (λ t. t.tables) c.self.view_is) c.unsaid_of-unsaid.ensures.left
    c.in_ok-left.ensures.unsaid

pub returns-clause-told : goal.returns-clause-told
returns-clause-told c =
    c.end_turn.ensures ∙ whole_told c.args.pushed.now _ c.args.now c.args.self.now _ _ _ _ _
    c.turn_at-turn.ensures (c.as_slice.ensures ∙ ap (λ t. t.tables) c.self.view_is)
    c.in_ok-left.ensures.unsaid c.in_ok-left.ensures.told c.unsaid_of-unsaid.ensures.defined
