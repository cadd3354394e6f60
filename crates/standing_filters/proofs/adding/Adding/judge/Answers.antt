use Rattle.std.proofs.Common.{◌≡◌, ◌∙◌, ap, refl, subst}
use Rattle.place_index.specs.Places.{in_order}
use Rattle.standing_filters.specs.Plans.{Becomes, Watching, kept_by, view_of_watch}
use Rattle.standing_filters.specs.Watched.{IsTouched, Watched}
use Rattle.standing_filters.proofs.Touched.{touched}
use Rattle.standing_filters.proofs.adding.Adding.judge.Goals as goal

pub returns-clause-ok : goal.returns-clause-ok
returns-clause-ok g c = λ fresh.
    let watch : Watching = c.self.inside.watch in
    let roomed : Watching = c.reserve.new.self in
    let summed = g.V.Values.summed c.args.values.now in
    let living = g.V.Values.living c.args.values.now in
    let same : kept_by roomed ≡ kept_by watch = ap in_order c.in_ok-reserve.ensures.places in
    subst (λ (w : Watched). IsTouched summed living w.filter.table c.args.key.now c.args.now w
    (view_of_watch c.change.new.self)) c.self.view_is
    (touched summed living watch.filter.table c.args.key.now c.args.now watch c.change.new.self
    c.judge-verdict.result refl (c.change.ensures.filter ∙ c.in_ok-reserve.ensures.filter)
    c.judge-verdict.ensures.verdict
    (subst (λ kept. Becomes c.args.key.now c.judge-verdict.result kept
    (kept_by c.change.new.self)) same c.change.ensures.kept))
