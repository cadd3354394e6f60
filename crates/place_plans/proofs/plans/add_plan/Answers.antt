use Rattle.std.proofs.Common.{◌≡◌, ◌+◌, Some, ap, ◌∙◌, sym, subst}
use Rattle.std.specs.Prelude.{slice_set}
use Rattle.place_plans.specs.Forms.{links_of}
use Rattle.place_plans.specs.Links.{AreLinked, link_in, moments_of, places_at}
use Rattle.place_plans.specs.Plans.{padded}
use Rattle.place_plans.proofs.Links.{added, added_moments}
use Rattle.place_plans.proofs.plans.add_plan.Goals as goal

-- what the links are in the end
now : (c : goal.After-tell) → links_of c.tell.new.self
    ≡ slice_set (padded (links_of c.args.links.now) (c.args.place + 1)) c.args.place
    (Some (c.args.at, c.in_ok-index.index))
now c = c.tell.ensures.after
    ∙ ap (λ xs. slice_set xs c.args.place (Some (c.args.at, c.in_ok-index.index)))
    (c.grow.ensures.items ∙ ap (λ xs. padded xs (c.args.place + 1))
    (c.stand.ensures.same ∙ c.make_room.ensures.same))

pub returns-clause-linked : goal.returns-clause-linked
returns-clause-linked c =
    subst (λ xs. AreLinked (link_in xs) (places_at c.stand.new.buckets)) (sym (now c))
    (added (links_of c.args.links.now) (places_at c.args.buckets.now)
    (places_at c.stand.new.buckets) c.args.place c.args.at c.in_ok-index.index
    c.requires.linked c.requires.none c.in_ok-index.ensures.own c.stand.ensures.others
    c.in_ok-index.ensures.index)

pub returns-clause-ok : goal.returns-clause-ok
returns-clause-ok c = ap moments_of (now c)
    ∙ added_moments (links_of c.args.links.now) c.args.place c.args.at c.in_ok-index.index
