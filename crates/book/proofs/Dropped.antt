-- Kept verdicts, once an added filter is gone.
use Rattle.std.proofs.Common.{◌≡◌, ℕ, ◌<◌, true, cond}
use Rattle.std.proofs.Common.{nat_lt, List, length, map, remove, Some}
use Rattle.std.proofs.Common.{None, sym, ap, ◌∙◌, subst, arith}
use Rattle.std.proofs.lemmas.Bool.Decides.{nat_tests}
use Rattle.std.proofs.lemmas.List.{length-map}
use Rattle.std.specs.List.{AllByRecursion}
use Rattle.agg_types.specs.declared.config.Filter.{Filter}
use Rattle.fleet_model.specs.State.{State}
use Rattle.standing_filters.proofs.Removed.{all-remove, map-remove}
use Rattle.standing_filters.specs.Watched.{Watched}
use Rattle.book.specs.Verdicts.{AreAll, HasFewer, IsJudged}
use Rattle.book_machine.specs.Leaving.{IsAddedPlace}
use Rattle.book.proofs.Judging.{all_judged, still_judged}

-- ---- the verdicts of all others
filters_in : List Watched → List Filter
filters_in ws = map (λ (w : Watched). w.filter) ws

others_held : (state later : State) (name : List ℕ) (new : List Watched)
    → HasFewer name state later → filters_in new ≡ later.config.filters
    → AllByRecursion (IsJudged state) new → AreAll later new
unfolding filters_in
others_held state later name new fewer filters judged = record {
  filters = filters;
  judged = all_judged (IsJudged state) (IsJudged later)
      (still_judged state later fewer.tables fewer.rows fewer.moment) new judged;
}

pub fewer_kept : (state later : State) (name : List ℕ) (place : ℕ) (old new : List Watched)
    → HasFewer name state later → IsAddedPlace state name (Some place) → AreAll state old
    → new ≡ cond (nat_lt place (length old)) (remove old place) old → AreAll later new
unfolding filters_in
fewer_kept state later name place old new fewer added held is =
    let count : length old ≡ length state.config.filters =
    sym (length-map old (λ (w : Watched). w.filter)) ∙ ap length held.filters in
    let inside : place < length state.config.filters = added.within in
    let here : nat_lt place (length old) ≡ true = grind (arith, nat_tests) in
    let gone : new ≡ remove old place = is ∙ ap (λ b. cond b (remove old place) old) here in
    subst (AreAll later) (sym gone) (others_held state later name (remove old place) fewer
    (map-remove (λ (w : Watched). w.filter) old place
    ∙ ap (λ fs. remove fs place) held.filters ∙ sym (fewer.filters ∙ added.gone))
    (all-remove (IsJudged state) old place held.judged))

-- where no added filter has the name, all stay
pub none_kept : (state later : State) (name : List ℕ) (old : List Watched)
    → HasFewer name state later → IsAddedPlace state name None → AreAll state old
    → AreAll later old
unfolding filters_in
none_kept state later name old fewer added held = others_held state later name old fewer
    (held.filters ∙ sym (fewer.filters ∙ added.gone)) held.judged
