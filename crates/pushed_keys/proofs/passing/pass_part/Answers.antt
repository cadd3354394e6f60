use Rattle.std.proofs.Common.{subst, List, refl}
use Rattle.std.proofs.lemmas.Result.{on_ok_weaker}
use Rattle.std.specs.Arc.{arc_value}
use Rattle.std.specs.List.{AllByRecursion}
use Rattle.pushed_keys.specs.Passed.{IsKept, IsUndue}
use Rattle.pushed_keys.specs.declared.told.Mark.{Mark}
use Rattle.pushed_keys.proofs.Still.{quiet_part}
use Rattle.pushed_keys.proofs.Through.{done_quiet}
use Rattle.pushed_keys.proofs.passing.pass_part.Goals as goal

pub returns : goal.returns
returns c =
    let part : List Mark = arc_value c.args.part.now in
    let kept : AllByRecursion (λ mark. IsKept c.args.pushed.now c.args.turn mark) part =
    subst (λ (ms : List Mark). AllByRecursion
    (λ mark. IsKept c.args.pushed.now c.args.turn mark) ms)
    c.deref.ensures (c.keeps_all.ensures c.if-not-keeps_all.false) in
    let undue : AllByRecursion (λ mark. IsUndue c.args.pushed.now c.args.turn mark) part =
    subst (λ (ms : List Mark). AllByRecursion
    (λ mark. IsUndue c.args.pushed.now c.args.turn mark) ms)
    c.deref-2.ensures (c.is_undue.ensures c.if-not-is_undue.false) in
    on_ok_weaker c.take_over.result (λ h. done_quiet c.args.pushed.now c.args.turn
    c.args.done.now _ part (quiet_part c.args.pushed.now c.args.turn part kept undue) refl h)
    c.take_over.ensures
