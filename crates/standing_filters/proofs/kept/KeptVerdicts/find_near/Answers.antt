use Rattle.std.proofs.Common.{sym, ap, ◌∙◌}
use Rattle.place_index.specs.Places.{in_order}
use Rattle.place_index.proofs.Ordered.{lookup-absent, lookup-held}
use Rattle.standing_filters.specs.Marked.{Marking}
use Rattle.standing_filters.specs.Plans.{kept_at}
use Rattle.standing_filters.proofs.kept.KeptVerdicts.find_near.Goals as goal

pub returns-in_err-at-clause-kept : goal.returns-in_err-at-clause-kept
returns-in_err-at-clause-kept c = rw c.from_residual.ensures
    (sym (ap (λ (m : Marking). kept_at (in_order m.places) c.args.key.now) (sym c.self.view_is)
    ∙ lookup-absent c.self.inside.verdicts.places c.args.key.now c.in_err-at.ensures.none))

pub returns-clause-kept : goal.returns-clause-kept
returns-clause-kept c =
    sym (lookup-held c.self.inside.verdicts.places c.in_ok-at.at c.args.key.now
    c.in_ok-verdict.verdict.now
    c.self.invariant.0.distinct
    c.in_ok-at.ensures.some
    (sym c.in_ok-verdict.ensures))
    ∙ ap (λ (m : Marking). kept_at (in_order m.places) c.args.key.now) c.self.view_is
