use Rattle.std.proofs.Common.{◌≡◌, Some, ap, ◌∙◌, sym, subst, slice_get, refl, length, ◌<◌}
use Rattle.std.proofs.lemmas.Option.{slice_get_within}
use Rattle.std.specs.Prelude.{slice_set}
use Rattle.place_plans.specs.Forms.{links_of}
use Rattle.place_plans.specs.Links.{AreLinked, link_in, mended, moments_of, places_at}
use Rattle.place_plans.proofs.Links.{moved_linked, moved_moments}
use Rattle.place_plans.proofs.plans.move_plan.Goals as goal

pub leave-requires-clause-within : goal.leave-requires-clause-within
leave-requires-clause-within c =
    subst (λ xs. c.args.link.1 < length xs)
    (sym (c.stand.ensures.others c.args.link.0 c.requires.apart))
    (slice_get_within (places_at c.args.buckets.now c.args.link.0) c.args.link.1 c.args.place
    (c.requires.linked.stands c.args.place c.args.link c.requires.link))

-- what the links are in the end
now : (c : goal.After-tell) → links_of c.tell.new.self
    ≡ slice_set (mended (links_of c.args.links.now)
    (slice_get (places_at c.leave.new.buckets c.args.link.0) c.args.link.1) c.args.link)
    c.args.place (Some (c.args.at, c.in_ok-index.index))
now c = c.tell.ensures.after
    ∙ ap (λ xs. slice_set xs c.args.place (Some (c.args.at, c.in_ok-index.index)))
    (c.leave.ensures.links ∙ ap (λ xs. mended xs
    (slice_get (places_at c.leave.new.buckets c.args.link.0) c.args.link.1) c.args.link)
    c.stand.ensures.same)

pub returns-clause-linked : goal.returns-clause-linked
returns-clause-linked c =
    subst (λ xs. AreLinked (link_in xs) (places_at c.leave.new.buckets)) (sym (now c))
    (moved_linked (links_of c.args.links.now) (places_at c.args.buckets.now)
    (places_at c.stand.new.buckets) (places_at c.leave.new.buckets) c.args.place c.args.link
    c.args.at c.in_ok-index.index
    (slice_get (places_at c.leave.new.buckets c.args.link.0) c.args.link.1)
    c.requires.linked c.requires.link c.requires.apart c.in_ok-index.ensures.own
    c.stand.ensures.others c.leave.ensures.own c.leave.ensures.others refl
    c.in_ok-index.ensures.index)

pub returns-clause-ok : goal.returns-clause-ok
returns-clause-ok c = ap moments_of (now c)
    ∙ moved_moments (links_of c.args.links.now) (places_at c.args.buckets.now)
    (places_at c.stand.new.buckets) (places_at c.leave.new.buckets) c.args.place c.args.link
    c.args.at c.in_ok-index.index
    (slice_get (places_at c.leave.new.buckets c.args.link.0) c.args.link.1)
    c.requires.linked c.requires.link c.requires.apart c.in_ok-index.ensures.own
    c.stand.ensures.others c.leave.ensures.own c.leave.ensures.others refl
    c.in_ok-index.ensures.index
