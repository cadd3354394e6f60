use Rattle.std.proofs.Common.{ap, sym, ◌∙◌}
use Rattle.place_index.specs.Places.{in_order}
use Rattle.place_index.proofs.Ordered.{lookup-absent}
use Rattle.standing_filters.specs.Marked.{Marking}
use Rattle.standing_filters.specs.Plans.{kept_at}
use Rattle.standing_filters.proofs.kept.KeptVerdicts.may_have.Goals as goal

pub returns : goal.returns
returns c = λ none key is.
    sym (ap (λ (m : Marking). kept_at (in_order m.places) key) c.self.view_is)
    ∙ lookup-absent c.self.inside.verdicts.places key (c.may_have.ensures none key is)
