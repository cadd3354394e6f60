use Rattle.std.proofs.Common.{[], ◌∷◌, ap, map, sym, subst, List}
use Rattle.pushed_keys.specs.Moves.{unmoved}
use Rattle.pushed_keys.specs.Packed.{in_lists, lent}
use Rattle.pushed_keys.specs.Stands.{Stand}
use Rattle.pushed_keys.specs.declared.told.Mark.{Mark}
use Rattle.pushed_keys.proofs.Left.{IsDone, done_by, done_then}
use Rattle.pushed_keys.proofs.passing.tell_marks.Goals as goal

pub loop-mark-preserved : goal.loop-mark-preserved
loop-mark-preserved c = λ new h.
    let first : Stand = unmoved (lent c.in-Some.mark) in
    let one : IsDone c.args.pushed.now c.args.turn c.loop-mark.done (first ∷ []) c.tell.new.self =
    subst (λ (stand : Stand). IsDone c.args.pushed.now c.args.turn c.loop-mark.done (stand ∷ [])
    c.tell.new.self) c.standing_on.ensures c.in_ok-tell.ensures in
    c.loop-mark.invariant new (subst (λ (marks : List Mark).
    IsDone c.args.pushed.now c.args.turn c.loop-mark.done (map unmoved marks) new)
    (sym c.in-Some.ensures) (done_then c.args.pushed.now c.args.turn c.loop-mark.done
    c.tell.new.self new (first ∷ []) (map unmoved (in_lists c.in-Some.rest)) one h))

pub returns : goal.returns
returns c =
    done_by c.args.pushed.now c.args.turn _ c.loop-mark.done _ _
    (ap (map unmoved) c.in_default.ensures) c.loop-mark.invariant
