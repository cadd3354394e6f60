use Rattle.std.proofs.Common.{ap, sym, ◌∙◌}
use Rattle.std.specs.Prelude.{unwrap_or}
use Rattle.standing_filters.specs.Plans.{Watching, kept_at, kept_by}
use Rattle.standing_filters.specs.Verdicts.{out}
use Rattle.standing_filters.specs.Watched.{verdict_at}
use Rattle.standing_filters.proofs.watch.Watch.may_have.Goals as goal

pub returns : goal.returns
returns c = λ none key is.
    sym (ap (λ (w : Watching). verdict_at (kept_by w) key) c.self.view_is)
    ∙ ap (λ o. unwrap_or o out) (c.may_have.ensures none key is)
