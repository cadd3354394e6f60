use Rattle.std.proofs.Common.{ap, sym, ◌∙◌}
use Rattle.standing_filters.specs.Plans.{Watching, kept_at, kept_by}
use Rattle.standing_filters.proofs.Touched.{becomes_none}
use Rattle.standing_filters.proofs.watch.Watch.forget.Goals as goal

pub returns-in_default-clause-kept : goal.returns-in_default-clause-kept
returns-in_default-clause-kept c =
    let key = c.args.key.now in
    becomes_none key (kept_by c.args.self.now)
    (sym (c.in_default.ensures.kept
    ∙ ap (λ (w : Watching). kept_at (kept_by w) key) c.self.view_is))
