use Rattle.std.proofs.Common.{◌≡◌, None, ap, ◌∙◌, sym, subst, slice_get, refl}
use Rattle.std.specs.Prelude.{slice_set}
use Rattle.std.proofs.lemmas.List.{map-set}
use Rattle.std.proofs.lemmas.Option.{slice_get_within}
use Rattle.std.specs.Option.{option_map}
use Rattle.place_plans.specs.Forms.{links_of}
use Rattle.place_plans.specs.Links.{AreLinked, link_in, mended, moments_of, places_at}
use Rattle.place_plans.proofs.Links.{left_linked, left_moments}
use Rattle.place_plans.proofs.plans.drop_plan.Goals as goal

pub leave-requires-clause-within : goal.leave-requires-clause-within
leave-requires-clause-within c =
    slice_get_within (places_at c.args.buckets.now c.args.link.0) c.args.link.1 c.args.place
    (c.requires.linked.stands c.args.place c.args.link c.requires.link)

-- what the links are in the end
now : (c : goal.After-clear) → links_of c.clear.new.self
    ≡ slice_set (mended (links_of c.args.links.now)
    (slice_get (places_at c.leave.new.buckets c.args.link.0) c.args.link.1) c.args.link)
    c.args.place None
now c = c.clear.ensures ∙ ap (λ xs. slice_set xs c.args.place None) c.leave.ensures.links

pub returns-clause-linked : goal.returns-clause-linked
returns-clause-linked c =
    subst (λ xs. AreLinked (link_in xs) (places_at c.leave.new.buckets)) (sym (now c))
    (left_linked (links_of c.args.links.now) (places_at c.args.buckets.now)
    (places_at c.leave.new.buckets) c.args.place c.args.link
    (slice_get (places_at c.leave.new.buckets c.args.link.0) c.args.link.1)
    c.requires.linked c.requires.link c.leave.ensures.own c.leave.ensures.others refl)

pub returns-clause-after : goal.returns-clause-after
returns-clause-after c =
    ap moments_of (now c)
    ∙ map-set (option_map (λ l. l.0)) (mended (links_of c.args.links.now)
    (slice_get (places_at c.leave.new.buckets c.args.link.0) c.args.link.1) c.args.link)
    c.args.place None
    ∙ ap (λ ms. slice_set ms c.args.place None)
    (left_moments (links_of c.args.links.now) (places_at c.args.buckets.now)
    (places_at c.leave.new.buckets) c.args.place c.args.link
    (slice_get (places_at c.leave.new.buckets c.args.link.0) c.args.link.1)
    c.requires.linked c.requires.link c.leave.ensures.own c.leave.ensures.others refl)
