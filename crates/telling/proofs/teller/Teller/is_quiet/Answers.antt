use Rattle.std.proofs.Common.{◌∙◌, ap, sym}
use Rattle.telling.proofs.Whole.{quiet_messages, quiet_told}
use Rattle.telling.proofs.teller.Teller.is_quiet.Goals as goal

pub returns-clause-said : goal.returns-clause-said
returns-clause-said c = λ yes.
    quiet_messages c.args.pushed.now _ c.args.now c.args.self.now _ _ c.turn_at.ensures
    (c.as_slice.ensures ∙ ap (λ t. t.tables) c.self.view_is)
    (ap (λ t. t.begun) (sym c.self.view_is) ∙ c.if-not-self.false)
    (c.are_quiet.ensures yes)

pub returns-clause-told : goal.returns-clause-told
returns-clause-told c = λ yes.
    quiet_told c.args.pushed.now _ c.args.now c.args.self.now _ _ c.turn_at.ensures
    (c.as_slice.ensures ∙ ap (λ t. t.tables) c.self.view_is)
    (ap (λ t. t.begun) (sym c.self.view_is) ∙ c.if-not-self.false)
    (ap (λ t. t.anew) (sym c.self.view_is) ∙ c.if-self.false) (c.are_quiet.ensures yes)
