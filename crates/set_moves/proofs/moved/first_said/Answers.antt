use Rattle.std.proofs.Common.{◌≡◌, List, ℕ, None, Some, cond, subst}
use Rattle.std.specs.BTreeMap.{get}
use Rattle.std.specs.Cmp.Lexicographic.{slice_cmp}
use Rattle.std.specs.Ordering.{nat_cmp}
use Rattle.standing_filters.specs.Turns.{same_key}
use Rattle.set_moves.proofs.Moving.{kept_none, kept_some}
use Rattle.set_moves.proofs.moved.first_said.Goals as goal

pub returns-in-Some-clause-kept : goal.returns-in-Some-clause-kept
returns-in-Some-clause-kept c key =
    let firsts = get (slice_cmp nat_cmp) c.args.firsts.now in
    let there : firsts c.args.change.now.key ≡ Some c.in-Some.first =
    cc (c.get.ensures.value, c.copied.ensures, c.in-Some.is) in
    kept_some firsts c.args.change.now c.in-Some.first key there

pub returns-in_ok-insert-in-None-clause-kept : goal.returns-in_ok-insert-in-None-clause-kept
returns-in_ok-insert-in-None-clause-kept c key =
    let old = get (slice_cmp nat_cmp) c.args.firsts.now in
    let later = get (slice_cmp nat_cmp) c.insert.new.self in
    let none : old c.args.change.now.key ≡ None =
    cc (c.get.ensures.value, c.copied.ensures, c.in-None.is) in
    kept_none old later c.args.change.now key none
    (subst (λ (k : List ℕ).
    later key ≡ cond (same_key k key) (Some c.args.change.now.is_in) (old key))
    c.in_ok-duplicate-in-None.ensures.key (c.in_ok-insert-in-None.ensures.updates.0 key))
