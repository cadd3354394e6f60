use Rattle.std.proofs.Common.{◌∙◌, ap, map, sym, subst, List}
use Rattle.pushed_keys.specs.Moves.{AreMovedTo}
use Rattle.pushed_keys.specs.declared.told.ToldTable.{ToldTable}
use Rattle.telling.proofs.Whole.{quiet_messages, quiet_told}
use Rattle.telling.proofs.teller.Teller.is_idle.Goals as goal

pub returns-clause-said : goal.returns-clause-said
returns-clause-said c = λ yes sets to.
    let tables = c.as_slice.ensures ∙ ap (λ t. t.tables) c.self.view_is in
    let moved = subst (λ (ts : List ToldTable). AreMovedTo c.args.pushed.now
    (map (λ ms. ms.items) c.args.moves.now) ts sets) (sym tables) to in
    quiet_messages c.args.pushed.now sets c.args.now c.args.self.now _ _ c.turn_at.ensures tables
    (ap (λ t. t.begun) (sym c.self.view_is) ∙ c.if-not-self.false)
    (c.are_idle.ensures yes sets moved)

pub returns-clause-told : goal.returns-clause-told
returns-clause-told c = λ yes sets to.
    let tables = c.as_slice.ensures ∙ ap (λ t. t.tables) c.self.view_is in
    let moved = subst (λ (ts : List ToldTable). AreMovedTo c.args.pushed.now
    (map (λ ms. ms.items) c.args.moves.now) ts sets) (sym tables) to in
    quiet_told c.args.pushed.now sets c.args.now c.args.self.now _ _ c.turn_at.ensures tables
    (ap (λ t. t.begun) (sym c.self.view_is) ∙ c.if-not-self.false)
    (ap (λ t. t.anew) (sym c.self.view_is) ∙ c.if-self.false)
    (c.are_idle.ensures yes sets moved)
