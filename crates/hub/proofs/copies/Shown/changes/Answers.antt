use Rattle.std.proofs.Common.{map, ap, ◌∙◌, ◌≡◌}
use Rattle.hub.specs.Copied.{Copy}
use Rattle.hub.proofs.Told.{if_ok_some, say_behind, took_whole}
use Rattle.hub.proofs.copies.Shown.changes.Goals as goal

pub returns-in-Some : goal.returns-in-Some
returns-in-Some c =
    let trail : c.self.inside.trail ≡ c.args.self.now.copied.took =
    took_whole c.self.inside.trail c.self.inside.rest
    (ap (λ (x : Copy). x.part) c.self.view_is ∙ c.requires)
    ∙ ap (λ (x : Copy). x.copied.took) c.self.view_is in
    if_ok_some _ _ c.since.result (λ changes say. say_behind c.in-Some.changes
    c.self.inside.changes c.self.inside.trail c.args.self.now.copied.took c.args.filter
    c.args.since (map (λ change. change.now) changes.items) c.in-Some.is c.self.invariant.2 trail
    say) c.since.ensures
