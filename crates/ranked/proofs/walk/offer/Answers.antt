use Rattle.std.proofs.Common.{ap, sym, subst, ◌∙◌, take, drop, map, ◌∷◌}
use Rattle.fleet_model.specs.Ranking.{put_in_order, rank_cmp}
use Rattle.std.proofs.lemmas.List.{map-append}
use Rattle.ranked.specs.Walk.{AreRanked, view_of_candidate}
use Rattle.ranked.proofs.Standing.{ranked-put, ranked-take}
use Rattle.ranked.proofs.Walking.{map_take}
use Rattle.ranked.proofs.walk.offer.Goals as goal

pub returns-in-Ok-clause-offered : goal.returns-in-Ok-clause-offered
returns-in-Ok-clause-offered c =
    ap (λ l. map view_of_candidate l) (c.truncate.ensures.items
    ∙ ap (λ l. take c.args.room l) c.in-Ok.ensures.items)
    ∙ map_take view_of_candidate c.args.room _
    ∙ ap (λ l. take c.args.room l)
    (map-append view_of_candidate (take c.place_of-place.result c.args.candidates.now.items)
    (c.args.key ∷ drop c.place_of-place.result c.args.candidates.now.items)
    ∙ sym (rw c.as_slice-2.ensures.value at c.place_of-place.ensures.place))

pub returns-in-Ok-clause-ranked : goal.returns-in-Ok-clause-ranked
returns-in-Ok-clause-ranked c =
    let old = map view_of_candidate c.args.candidates.now.items in
    subst (λ l. AreRanked l) (sym (returns-in-Ok-clause-offered c))
    (ranked-take c.args.room (put_in_order rank_cmp (view_of_candidate c.args.key) old)
    (ranked-put (view_of_candidate c.args.key) old c.requires.ranked))
