use Rattle.std.proofs.Common.{◌≡◌, ◌+◌, ◌∷◌, ◌++◌, [], List, take, ap, subst, sym, ◌∙◌}
use Rattle.standing_filters.specs.declared.flips.Flip.{Flip}
use Rattle.std.proofs.lemmas.List.{take_more}
use Rattle.set_changes.specs.Noting.{Takes}
use Rattle.set_changes.proofs.Known.{takes_then}
use Rattle.set_changes.proofs.changes.Changes.note_each.Goals as goal

pub loop-flip-preserved : goal.loop-flip-preserved
loop-flip-preserved c =
    let flips = c.args.flips.now in
    let at = c.loop-flip.flip-index in
    let flip = c.flip-item.result in
    let split : take (at + 1) flips ≡ take at flips ++ flip ∷ [] =
    take_more flips at flip c.loop-flip-test.true
    ∙ ap (λ (f : Flip). take at flips ++ f ∷ []) (sym c.flip-item.is) in
    subst (λ (fs : List Flip). Takes fs c.args.self.now c.note.new.self) (sym split)
    (takes_then (take at flips) (flip ∷ []) c.args.self.now c.loop-flip.self c.note.new.self
    c.loop-flip.invariant c.note.ensures)
