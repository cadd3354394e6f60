-- Later lists of one history.
use Rattle.std.proofs.Common.{ℕ, ◌==◌, List, ◌∷◌, Option, None, Some, IfSome, refl, sym, ap, ◌∙◌}
use Rattle.std.proofs.Common.{subst, ◌≡◌, false}
use Rattle.std.proofs.lemmas.List.Elements.{filter-append}
use mathlib.Core.List.{IsPrefix}
use Rattle.agg_types.specs.declared.event.Event.{Event}
use Rattle.agg_types.specs.declared.event.What.{What}
use Rattle.agg_types.specs.declared.event.What.TheVariants.{Sit}
use Rattle.fleet_model.specs.Seats.{numbered}
use Rattle.hub.proofs.Fronts.{prefix_self, prefix_trans}
use Rattle.hub.specs.History.{Beginning, own}
use Rattle.hub.specs.Posts.{Follows}
use Rattle.hub.specs.Views.{Seeing}
use Rattle.worker_frame.specs.Told.{ShowsTold, TellsLast}

pub follows_self : (b : Beginning) → Follows b b
follows_self b = record { same = refl; events = prefix_self b.events }

own_on : (seat : ℕ) (a b : Beginning) → Follows a b
    → IsPrefix (own seat a.events) (own seat b.events)
own_on seat a b follows = (
  own seat follows.events.0,
  sym (filter-append (λ (e : Event). e.seat == seat) a.events
      follows.events.0) ∙ ap (own seat) follows.events.1,
)

-- what a list shows a later one shows
pub shows_on : (seat : ℕ) (whats : List What) (a b : Beginning) → ShowsTold seat whats a
    → Follows a b
    → ShowsTold seat whats b
shows_on seat whats a b shows follows =
    λ some. prefix_trans (numbered seat 0 (Sit ∷ whats)) (own seat a.events) (own seat b.events)
    (shows some) (own_on seat a b follows)

-- what the last receipt shows is seen once it was learned
pub shows_last : (seat : ℕ) (whats : List What) (last : Option Beginning) (seen : Beginning)
    → TellsLast seat whats last
    → IfSome last (λ list. Follows list seen) → ShowsTold seat whats seen
shows_last seat whats None seen none follows = λ some. absurd (some none)
shows_last seat whats (Some list) seen tells follows =
    λ some. subst (λ (es : List Event). IsPrefix es (own seat seen.events)) tells
    (own_on seat list seen follows)

-- a lens that was just made
pub lens_follows : (hub : Beginning) (lens : Seeing) → lens ≡ record { seen = hub; inside = false }
    → Follows hub lens.seen
lens_follows hub lens is = subst (λ (b : Beginning). Follows hub b)
    (sym (ap (λ (s : Seeing). s.seen) is)) (follows_self hub)
