use Rattle.std.proofs.Common.{◌≡◌, ◌-◌, ◌≤◌, ◌<◌, ℕ, true, false, Option, None, Some}
use Rattle.std.proofs.Common.{List, [], length}
use Rattle.std.proofs.Common.{refl, sym, ap, ◌∙◌, arith, ⊎_elim}
use Rattle.std.proofs.lemmas.Bool.{cases_lt, false≢true, le-leb}
use Rattle.std.specs.Option.{option_map}
use Rattle.place_plans.specs.Forms.{links_of}
use Rattle.place_plans.specs.Links.{IsLinked, moments_of, places_at}
use Rattle.place_plans.specs.Plans.{is_due, plan_at}
use Rattle.place_plans.proofs.Links.{plan_of_link, none_due}
use Rattle.place_plans.proofs.plans.next_planned.Goals as goal

-- where no place stands up to a moment, none is planned then
not_then : (links : List (Option (ℕ × ℕ))) (buckets : List (ℕ × List ℕ)) (place u : ℕ)
    → IsLinked links buckets → ((m : ℕ) → m ≤ u → places_at buckets m ≡ [])
    → plan_at (moments_of links) place ≡ Some u → ⊥
not_then links buckets place u linked empty is =
    false≢true (sym (none_due links (places_at buckets) u linked empty place)
    ∙ ap (is_due u) is ∙ le-leb u u (omega arith))

never : (o : Option ℕ) → ((u : ℕ) → o ≡ Some u → ⊥) → o ≡ None
never None h = refl
never (Some u) h = absurd (h u refl)

pub returns-clause-some : goal.returns-clause-some
returns-clause-some c = (
  c.in_ok-at._place,
  plan_of_link (links_of c.args.links.now) c.in_ok-at._place
      ∙ ap (option_map (λ l. l.0)) (c.requires.says c.in_ok-at._place
      (c.in_ok-at.at, length (places_at c.args.buckets.now c.in_ok-at.at) - 1)
      c.in_ok-at.ensures.some),
)

pub returns-clause-least : goal.returns-clause-least
returns-clause-least c = λ place u is. ⊎_elim
    (λ earlier. absurd (not_then (links_of c.args.links.now) c.args.buckets.now place u c.requires
    (λ m within. c.in_ok-at.ensures.least m (omega arith)) is))
    (λ most. most) (cases_lt u c.in_ok-at.at)

pub returns-in_err-at-clause-none : goal.returns-in_err-at-clause-none
returns-in_err-at-clause-none c = rw c.from_residual.ensures
    (λ place. never (plan_at (moments_of (links_of c.args.links.now)) place)
    (λ u is. not_then (links_of c.args.links.now) c.args.buckets.now place u c.requires
    (λ m within. c.in_err-at.ensures.none m) is))
