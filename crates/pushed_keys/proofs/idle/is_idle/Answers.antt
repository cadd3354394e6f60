use Rattle.std.proofs.Common.{map, subst, sym, List}
use Rattle.std.specs.Arc.{arc_value}
use Rattle.std.specs.List.{AllByRecursion}
use Rattle.pushed_keys.specs.Moves.{unmoved}
use Rattle.pushed_keys.specs.Packed.{marks_of}
use Rattle.pushed_keys.specs.Passed.{IsKept, IsUndue}
use Rattle.pushed_keys.specs.Turns.{AreQuiet}
use Rattle.pushed_keys.specs.declared.told.Mark.{Mark}
use Rattle.pushed_keys.proofs.Still.{quiet_part, quiet_then}
use Rattle.pushed_keys.proofs.idle.is_idle.Goals as goal

pub loop-part-preserved : goal.loop-part-preserved
loop-part-preserved c = λ quiet.
    let part : List Mark = arc_value c.in-Some.part.now in
    let kept : AllByRecursion (λ mark. IsKept c.args.pushed.now c.args.turn mark) part =
    subst (λ (ms : List Mark). AllByRecursion
    (λ mark. IsKept c.args.pushed.now c.args.turn mark) ms)
    c.deref.ensures (c.keeps_all.ensures c.if-not-keeps_all.false) in
    let undue : AllByRecursion (λ mark. IsUndue c.args.pushed.now c.args.turn mark) part =
    subst (λ (ms : List Mark). AllByRecursion
    (λ mark. IsUndue c.args.pushed.now c.args.turn mark) ms)
    c.deref-else-not-keeps_all.ensures (c.is_undue.ensures c.if-not-is_undue.false) in
    c.loop-part.invariant (subst (λ (ms : List Mark).
    AreQuiet c.args.pushed.now c.args.turn (map unmoved ms) ms) (sym c.in-Some.ensures.marks)
    (quiet_then c.args.pushed.now c.args.turn part (marks_of c.in-Some.behind)
    (quiet_part c.args.pushed.now c.args.turn part kept undue) quiet))
