-- A filter's next change is one moment, or none.
use Rattle.std.proofs.Common.{◌≡◌, ⊎_elim, ℕ, Option, None, Some, refl, ap}
use Rattle.std.proofs.lemmas.Bool.{cases_order}
use Rattle.agg_types.specs.declared.config.Filter.{Filter}
use Rattle.fleet_model.specs.Next.{IsNextChange}
use Rattle.fleet_model.specs.State.{State}

pub only_change : (state : State) (filter : Filter) (one other : Option ℕ)
    → IsNextChange state filter one → IsNextChange state filter other → one ≡ other
only_change state filter None None g h = refl
only_change state filter None (Some t) g h = absurd (h.differs (g t h.later))
only_change state filter (Some t) None g h = absurd (g.differs (h t g.later))
only_change state filter (Some t) (Some u) g h =
    ⊎_elim (λ same. ap Some same)
    (λ apart. ⊎_elim (λ before. absurd (g.differs (h.same_before t g.later before)))
    (λ behind. absurd (h.differs (g.same_before u h.later behind))) apart)
    (cases_order t u)
