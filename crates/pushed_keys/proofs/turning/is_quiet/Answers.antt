use Rattle.std.proofs.Common.{◌≡◌, ap, map, arith, length}
use Rattle.std.proofs.lemmas.List.{nil_from_length}
use Rattle.std.proofs.lemmas.Bool.Decides.{nat_tests}
use Rattle.pushed_keys.proofs.Still.{fewer_behind, none_first, quiet_behind, quiet_end}
use Rattle.pushed_keys.proofs.turning.is_quiet.Goals as goal

pub loop-behind-preserved : goal.loop-behind-preserved
loop-behind-preserved c = λ quiet. c.loop-behind.invariant
    (quiet_behind _ _ _ _ _ _ c.in-Some-behind_quiet.ensures quiet)

pub loop-behind-smaller : goal.loop-behind-smaller
loop-behind-smaller c = fewer_behind _ _ _ _ _ _ c.in-Some-behind_quiet.ensures

pub returns-then-is_empty : goal.returns-then-is_empty
returns-then-is_empty c = λ yes.
    let short : length c.loop-behind.left.0.now ≡ 0 =
    grind (arith, nat_tests, c.is_empty.ensures, c.if-is_empty.true) in
    c.loop-behind.invariant (quiet_end c.args.pushed.now c.args.turn _ _
    (ap (map (λ key. key.now)) (nil_from_length c.loop-behind.left.0.now short))
    (none_first c.split_first.result c.is_none.result _ _ c.split_first.ensures
    c.is_none.ensures yes))
