-- A filter as the verdict in one place comes, goes or becomes another, and its plan with it.
use Rattle.std.proofs.Common.{◌≡◌, ℕ, false, Option, None, sym, ap, ◌∙◌, subst}
use Rattle.std.specs.Prelude.{slice_set}
use Rattle.place_index.specs.Places.{AreDistinct}
use Rattle.place_index.proofs.Leading.{emptied_same}
use Rattle.standing_filters.specs.Placed.{IsSetAt, VerdictPlaces}
use Rattle.standing_filters.specs.Placed.{verdict_in}
use Rattle.standing_filters.specs.Plans.{IsPlanned, IsWatch, IsWatchBut, Watching}
use Rattle.standing_filters.specs.Verdicts.{out}
use Rattle.standing_filters.specs.declared.judging.Verdict.{Verdict}
use Rattle.standing_filters.proofs.Placing.{others_set, set_itself}
use Rattle.standing_filters.proofs.Planning.{verdict_of, watch_again}

module _ (at : ℕ) (w inside new : Watching) (view : inside ≡ w) (same : new.filter ≡ inside.filter)
  where
    -- a place is emptied
    module _ (after : new.places ≡ slice_set inside.places at None) where
      none_left : verdict_in new.places at ≡ out
      none_left = ap (λ (l : VerdictPlaces). verdict_in l at) after
          ∙ ap verdict_of (emptied_same inside.places at)

      is_set : IsSetAt at inside.places new.places
      is_set = subst (λ (l : VerdictPlaces). IsSetAt at inside.places l) (sym after)
          (set_itself inside.places at None)

      pub emptied_watch : IsWatchBut at w → AreDistinct new.places
          → (new.plans.lost ≡ false → IsPlanned at None inside.plans new.plans) → IsWatch new
      emptied_watch watch distinct planned =
          watch_again at inside new (subst (IsWatchBut at) (sym view) watch) same distinct
          (others_set at inside.places new.places is_set)
          (λ known. subst (λ (o : Option ℕ). IsPlanned at o inside.plans new.plans)
          (sym (ap (λ (v : Verdict). v.next) none_left)) (planned known))
