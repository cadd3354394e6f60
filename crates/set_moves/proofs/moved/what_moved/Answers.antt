use Rattle.std.proofs.Common.{◌≡◌, ◌∙◌, ◌+◌, ◌++◌, ◌∷◌, [], Bor, List, ap, map, subst, sym, take}
use Rattle.std.specs.Prelude.{unwrap_or}
use Rattle.std.proofs.lemmas.List.{map-append, take_more}
use Rattle.set_changes.specs.declared.change.Change.{Change}
use Rattle.set_moves.specs.Moving.{AreMoved, earlier_of, first_of, said_by}
use Rattle.set_moves.proofs.Moving.{first_more, moved_more}
use Rattle.set_moves.proofs.moved.what_moved.Goals as goal

pub loop-change-preserved : goal.loop-change-preserved
loop-change-preserved c =
    let changes = c.args.changes.now in
    let at = c.loop-change.change-index in
    let item : Bor Change = c.change-item.result in
    let change : Change = item.now in
    let taken : List Change = map (λ (x : Bor Change). x.now) (take at changes) in
    let split : map (λ (x : Bor Change). x.now) (take (at + 1) changes) ≡ taken ++ change ∷ [] =
    ap (map (λ (x : Bor Change). x.now)) (take_more changes at item c.loop-change-test.true
    ∙ ap (λ (x : Bor Change). take at changes ++ x ∷ []) (sym c.change-item.is))
    ∙ map-append (λ (x : Bor Change). x.now) (take at changes) (item ∷ []) in
    let first : c.in_ok-first.first ≡ unwrap_or (first_of taken change.key) change.is_in =
    c.in_ok-first.ensures.said
    ∙ ap (λ o. unwrap_or o change.is_in) (c.loop-change.invariant.firsts change.key) in
    record {
      firsts = λ key. c.in_ok-first.ensures.kept key
          ∙ (ap (λ o. earlier_of o (said_by change key)) (c.loop-change.invariant.firsts key)
          ∙ (sym (first_more taken change key)
          ∙ ap (λ (cs : List Change). first_of cs key) (sym split)));
      moved = subst (λ (cs : List Change).
          AreMoved cs c.mark.new.keys.keys c.mark-in-loop-change.new.keys.keys) (sym split)
          (moved_more taken change c.in_ok-first.first c.are_in.result c.are_out.result
          c.loop-change.entered.keys c.loop-change.left.keys c.mark.new.keys.keys
          c.mark-in-loop-change.new.keys.keys first c.are_in.ensures c.are_out.ensures
          c.loop-change.invariant.moved c.in_ok-mark.ensures.marked c.in_ok-mark-2.ensures.marked
          c.in_ok-mark.ensures.ordered c.in_ok-mark-2.ensures.ordered);
    }
