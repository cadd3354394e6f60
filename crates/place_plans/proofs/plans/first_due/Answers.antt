use Rattle.std.proofs.Common.{◌-◌, ap, ◌∙◌, length, arith}
use Rattle.std.proofs.lemmas.Bool.{le-leb}
use Rattle.std.specs.Option.{option_map}
use Rattle.place_plans.specs.Forms.{links_of}
use Rattle.place_plans.specs.Links.{places_at}
use Rattle.place_plans.specs.Plans.{is_due}
use Rattle.place_plans.proofs.Links.{plan_of_link, none_due}
use Rattle.place_plans.proofs.plans.first_due.Goals as goal

pub returns-in-Some-clause-due : goal.returns-in-Some-clause-due
returns-in-Some-clause-due c =
    ap (is_due c.args.t) (plan_of_link (links_of c.args.links.now) c.in-Some.place
    ∙ ap (option_map (λ l. l.0)) (c.requires.says c.in-Some.place
    (c.in-Some.at, length (places_at c.args.buckets.now c.in-Some.at) - 1)
    c.in-Some.ensures.some))
    ∙ le-leb c.in-Some.at c.args.t (omega arith)

pub returns-in_default-clause-none : goal.returns-in_default-clause-none
returns-in_default-clause-none c =
    none_due (links_of c.args.links.now) (places_at c.args.buckets.now) c.args.t c.requires
    (λ m within. c.in-Some.ensures.least m (omega arith))

pub returns-in_default-2-clause-none : goal.returns-in_default-2-clause-none
returns-in_default-2-clause-none c =
    none_due (links_of c.args.links.now) (places_at c.args.buckets.now) c.args.t c.requires
    (λ m within. rw c.in_default.is at c.first.ensures.none m)
