use Rattle.std.proofs.Common.{ap, ◌∙◌}
use Rattle.place_index.specs.Places.{in_order}
use Rattle.place_index.proofs.Ordered.{sorted-in_order}
use Rattle.standing_filters.specs.Marked.{Marking}
use Rattle.standing_filters.specs.Placed.{verdicts_in}
use Rattle.standing_filters.specs.Plans.{changes_of}
use Rattle.standing_filters.proofs.Ordered.{listed_order}
use Rattle.standing_filters.proofs.kept.KeptVerdicts.planned.Goals as goal

pub returns-clause-all : goal.returns-clause-all
returns-clause-all c =
    let places = c.self.inside.verdicts.places in
    c.new.ensures
    ∙ ap (λ order. changes_of (verdicts_in places order)) c.iter.ensures.value
    ∙ ap changes_of (listed_order places c.self.inside.order.places c.self.invariant.0)
    ∙ ap (λ (m : Marking). changes_of (in_order m.places)) c.self.view_is

pub returns-clause-ordered : goal.returns-clause-ordered
returns-clause-ordered c = sorted-in_order c.args.self.now.places
