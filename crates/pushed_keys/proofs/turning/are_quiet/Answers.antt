use Rattle.std.proofs.Common.{arith, map, List, ℕ, subst, sym, refl}
use Rattle.std.proofs.lemmas.List.{drop_all}
use Rattle.pushed_keys.proofs.Quiet.{AllQuiet, all_quiet}
use Rattle.pushed_keys.proofs.Rest.{drop_here}
use Rattle.pushed_keys.proofs.turning.are_quiet.Goals as goal

pub loop-before-preserved : goal.loop-before-preserved
loop-before-preserved c = λ rest.
    let sets : List (List (List ℕ)) = map (λ set. map (λ key. key.now) set.items) c.args.sets.now in
    c.loop-before.invariant (subst (λ ps. AllQuiet c.args.turn sets c.args.told.now
    c.loop-before.before ps) (sym (drop_here c.args.pushed.now c.loop-before.before
    c.index-pushed-before.result c.loop-before-test.true c.index-pushed-before.is))
    (c.if-not-is_quiet_at.ensures refl, rest))

pub returns : goal.returns
returns c = λ yes.
    let sets : List (List (List ℕ)) = map (λ set. map (λ key. key.now) set.items) c.args.sets.now in
    let quiet : AllQuiet c.args.turn sets c.args.told.now 0 c.args.pushed.now =
    c.loop-before.invariant (subst (λ ps. AllQuiet c.args.turn sets c.args.told.now
    c.loop-before.before ps) (sym (drop_all c.loop-before.before c.args.pushed.now
    c.loop-before-test.false)) tt) in
    all_quiet c.args.turn sets c.args.told.now c.args.pushed.now quiet (omega arith)
