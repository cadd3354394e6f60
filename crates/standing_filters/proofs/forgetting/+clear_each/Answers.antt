use Rattle.std.proofs.Common.{List, ◌∷◌, true, map, sym, ap, ◌∙◌, subst}
use Rattle.place_index.specs.Places.{in_order}
use Rattle.standing_filters.specs.Placed.{VerdictPlaces}
use Rattle.standing_filters.specs.Plans.{Watching, view_of_watch}
use Rattle.standing_filters.specs.Watched.{AreForgotten, verdict_at}
use Rattle.standing_filters.proofs.Forgotten.{forgotten_elsewhere, forgotten_here}
use Rattle.standing_filters.proofs.forgetting.+clear_each.Goals as goal

pub returns-then-not-is_of-clause-forgotten : goal.returns-then-not-is_of-clause-forgotten
returns-then-not-is_of-clause-forgotten t c =
    let first = c.in-Some.first.now in
    subst (λ (l : List Watching). AreForgotten c.args.table (λ key. true) (map view_of_watch l)
    (view_of_watch first ∷ map view_of_watch c.clear_each.new.watches))
    (sym c.in-Some.ensures.cases.0) (
      forgotten_elsewhere c.args.table (λ key. true) first
          (sym c.is_of.ensures ∙ c.if-not-is_of.true),
      c.clear_each.ensures.forgotten,
    )

pub returns-clause-forgotten : goal.returns-clause-forgotten
returns-clause-forgotten t c =
    let first = c.in-Some.first.now in
    let made = c.clear.new.self in
    subst (λ (l : List Watching). AreForgotten c.args.table (λ key. true) (map view_of_watch l)
    (view_of_watch made ∷ map view_of_watch c.clear_each.new.watches))
    (sym c.in-Some.ensures.cases.0) (
      forgotten_here c.args.table (λ key. true) first made
          (sym c.is_of.ensures ∙ c.if-not-is_of.false)
          c.clear.ensures.filter
          (λ key. ap (λ (l : VerdictPlaces). verdict_at (in_order l) key) c.clear.ensures.places),
      c.clear_each.ensures.forgotten,
    )
