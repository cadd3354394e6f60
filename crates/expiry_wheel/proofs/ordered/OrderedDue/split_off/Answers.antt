use Rattle.std.proofs.Common.{◌≡◌, ◌<◌, ◌≤◌, true, ap, sym, ◌∙◌, subst}
use Rattle.std.specs.List.{AllByRecursion}
use Rattle.std.specs.Ordering.{nat_cmp, is_gt, is_le}
use Rattle.expiry_wheel.specs.Moments.{entries_of, AreGroups}
use Rattle.expiry_wheel.proofs.Lists.{all-imply}
use Rattle.expiry_wheel.proofs.Grouped.{groups-left, groups-right, entries_of-append}
use Rattle.expiry_wheel.proofs.Grouped.{all-entries_of, all-filter, gt_means, le_means}
use Rattle.expiry_wheel.proofs.ordered.OrderedDue.split_off.Goals as goal

pub invariant_of-result : goal.invariant_of-result
invariant_of-result g c = groups-right g.T.Ord.cmp c.split_off.new.self.entries
    c.in_ok-moments.moments.entries (subst (AreGroups g.T.Ord.cmp) c.in_ok-moments.ensures.parts
    c.self.invariant)

pub invariant_of-self-2 : goal.invariant_of-self-2
invariant_of-self-2 g c = groups-left g.T.Ord.cmp c.split_off.new.self.entries
    c.in_ok-moments.moments.entries (subst (AreGroups g.T.Ord.cmp) c.in_ok-moments.ensures.parts
    c.self.invariant)

pub returns-clause-parts : goal.returns-clause-parts
returns-clause-parts g c = sym c.self.view_is ∙ ap entries_of c.in_ok-moments.ensures.parts
    ∙ entries_of-append c.split_off.new.self.entries c.in_ok-moments.moments.entries

pub returns-clause-before : goal.returns-clause-before
returns-clause-before g c =
    all-entries_of (λ n. n < c.args.from) c.split_off.new.self.entries
    (subst (AllByRecursion (λ m. m.0 < c.args.from)) (sym c.in_ok-moments.ensures.below)
    (all-imply (λ m. is_gt (nat_cmp c.args.from m.0) ≡ true) (λ m. m.0 < c.args.from)
    (λ m e. gt_means c.args.from m.0 e) _ (all-filter _ c.self.inside.moments.entries)))

pub returns-clause-after : goal.returns-clause-after
returns-clause-after g c =
    all-entries_of (λ n. c.args.from ≤ n) c.in_ok-moments.moments.entries
    (subst (AllByRecursion (λ m. c.args.from ≤ m.0)) (sym c.in_ok-moments.ensures.from)
    (all-imply (λ m. is_le (nat_cmp c.args.from m.0) ≡ true) (λ m. c.args.from ≤ m.0)
    (λ m e. le_means c.args.from m.0 e) _ (all-filter _ c.self.inside.moments.entries)))
