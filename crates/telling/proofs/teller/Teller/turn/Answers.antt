use Rattle.std.proofs.Common.{◌∙◌, ap, sym}
use Rattle.telling.proofs.Whole.{whole_messages, whole_text, whole_told}
use Rattle.telling.proofs.teller.Teller.turn.Goals as goal

pub returns-then-is_quiet-clause-text : goal.returns-then-is_quiet-clause-text
returns-then-is_quiet-clause-text c =
    c.new.ensures.items ∙ whole_text c.args.pushed.now _ c.args.now c.args.self.now _
    (sym (c.is_quiet.ensures.said c.if-is_quiet.true))

pub returns-clause-text : goal.returns-clause-text
returns-clause-text c =
    c.in_ok-text.ensures ∙ whole_text c.args.pushed.now _ c.args.now c.args.self.now _
    (whole_messages c.args.pushed.now _ c.args.now c.args.self.now _ _ _ _ c.turn_at-turn.ensures
    (c.as_slice.ensures ∙ ap (λ t. t.tables) c.self.view_is) c.unsaid_of-unsaid.ensures.left
    c.in_ok-left.ensures.unsaid)

pub returns-clause-told : goal.returns-clause-told
returns-clause-told c =
    c.end_turn.ensures ∙ whole_told c.args.pushed.now _ c.args.now c.args.self.now _ _ _ _ _
    c.turn_at-turn.ensures (c.as_slice.ensures ∙ ap (λ t. t.tables) c.self.view_is)
    c.in_ok-left.ensures.unsaid c.in_ok-left.ensures.told c.unsaid_of-unsaid.ensures.defined
