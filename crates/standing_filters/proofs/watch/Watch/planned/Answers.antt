use Rattle.std.proofs.Common.{◌≡◌, ℕ, List, ap, sym, subst, ◌∙◌}
use Rattle.std.specs.Prelude.{map}
use Rattle.std.specs.Cmp.Lexicographic.{slice_cmp}
use Rattle.std.specs.List.Sorted.{IsStrictlySortedBy}
use Rattle.std.specs.Ordering.{nat_cmp}
use Rattle.place_index.proofs.Ordered.{sorted-in_order}
use Rattle.standing_filters.specs.Plans.{IsPlanOf, Watching, changes_of, kept_by}
use Rattle.standing_filters.proofs.Changes.{changes_exact, changes_ordered}
use Rattle.standing_filters.proofs.watch.Watch.planned.Goals as goal

pub returns-clause-exact : goal.returns-clause-exact
returns-clause-exact c =
    let kept = kept_by c.args.self.now in
    let is : c.planned.result ≡ changes_of kept =
    c.planned.ensures.all ∙ ap (λ (w : Watching). changes_of (kept_by w)) c.self.view_is in
    subst (λ (es : List (ℕ × List ℕ)). IsPlanOf kept es) (sym is)
    (changes_exact kept (sorted-in_order c.args.self.now.places))

pub returns-clause-ordered : goal.returns-clause-ordered
returns-clause-ordered c =
    let kept = kept_by c.args.self.now in
    let is : c.planned.result ≡ changes_of kept =
    c.planned.ensures.all ∙ ap (λ (w : Watching). changes_of (kept_by w)) c.self.view_is in
    subst (λ (es : List (ℕ × List ℕ)). IsStrictlySortedBy (slice_cmp nat_cmp) (map (λ e. e.1) es))
    (sym is) (changes_ordered kept (sorted-in_order c.args.self.now.places))
