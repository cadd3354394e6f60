use Rattle.std.proofs.Common.{ap, map, remove, ◌∙◌}
use Rattle.standing_filters.specs.Plans.{view_of_watch}
use Rattle.standing_filters.specs.Watched.{AllWatched}
use Rattle.standing_filters.proofs.Removed.{map-remove}
use Rattle.standing_filters.proofs.standing.Standing.remove.Goals as goal

pub returns : goal.returns
returns c = ap (map view_of_watch) c.remove-gone.ensures.items
    ∙ (map-remove view_of_watch c.self.inside.watches.items c.args.filter
    ∙ ap (λ (s : AllWatched). remove s.filters c.args.filter) c.self.view_is)
