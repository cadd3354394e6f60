use Rattle.std.proofs.Common.{◌∙◌, ap, map, sym, subst, List}
use Rattle.pushed_keys.specs.Moves.{AreMovedTo}
use Rattle.pushed_keys.specs.declared.told.ToldTable.{ToldTable}
use Rattle.telling.proofs.Whole.{whole_messages, whole_told}
use Rattle.telling.proofs.teller.Teller.begin_by.Goals as goal

pub returns-clause-said : goal.returns-clause-said
returns-clause-said c = λ sets to.
    let tables = c.as_slice.ensures ∙ ap (λ t. t.tables) c.self.view_is in
    let moved = subst (λ (ts : List ToldTable). AreMovedTo c.args.pushed.now
    (map (λ ms. ms.items) c.args.moves.now) ts sets) (sym tables) to in
    whole_messages c.args.pushed.now sets c.args.now c.args.self.now _ _ _ _
    c.turn_at-turn.ensures tables c.unsaid_of-unsaid.ensures.left
    (c.in_ok-left.ensures.unsaid sets moved)

pub returns-clause-told : goal.returns-clause-told
returns-clause-told c = λ sets to.
    let tables = c.as_slice.ensures ∙ ap (λ t. t.tables) c.self.view_is in
    let moved = subst (λ (ts : List ToldTable). AreMovedTo c.args.pushed.now
    (map (λ ms. ms.items) c.args.moves.now) ts sets) (sym tables) to in
    c.end_turn.ensures ∙ whole_told c.args.pushed.now sets c.args.now c.args.self.now _ _ _ _ _
    c.turn_at-turn.ensures tables (c.in_ok-left.ensures.unsaid sets moved)
    (c.in_ok-left.ensures.told sets moved) c.unsaid_of-unsaid.ensures.defined
