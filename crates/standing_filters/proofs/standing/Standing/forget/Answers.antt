use Rattle.std.proofs.Common.{◌∙◌, ap, arith, map}
use Rattle.standing_filters.specs.Plans.{view_of_watch}
use Rattle.standing_filters.specs.Watched.{AllWatched}
use Rattle.standing_filters.proofs.Lent.{told_whole}
use Rattle.standing_filters.proofs.standing.Standing.forget.Goals as goal

pub returns-clause-flips : goal.returns-clause-flips
returns-clause-flips c =
    told_whole c.self.inside.watches.len c.forget_each.new.watches c.self.inside.watches.items
    c.as_mut_slice.result.now c.args.self.now.filters c.args.flips.now c.forget_each.new.flips
    (omega (arith, c.forget_each.auto.watches, c.as_mut_slice.ensures.len))
    (ap (map view_of_watch) c.as_mut_slice.ensures.value
    ∙ ap (λ (s : AllWatched). s.filters) c.self.view_is) c.forget_each.ensures.flips
