-- Filters that are lent all together, and given back.
use Rattle.std.proofs.Common.{◌≡◌, ◌++◌, ℕ, false, List, arith, drop, length, map, subst, sym, take}
use Rattle.std.proofs.Common.{◌∙◌}
use Rattle.std.proofs.lemmas.List.{take-append-le, take_all}
use Rattle.standing_filters.specs.Flips.{Flipped, TellsFrom, TellsIfKnown, holding}
use Rattle.standing_filters.specs.Plans.{Watching, view_of_watch}
use Rattle.standing_filters.specs.Watched.{Watched}
use Rattle.standing_filters.proofs.Said.{from_all}

-- they are whole again
pub whole : (len : ℕ) (done items : List Watching) → len ≡ length done
    → take len (done ++ drop (length done) items) ≡ done
whole len done items count =
    take-append-le len done (drop (length done) items) (omega (count, arith))
    ∙ take_all len done (omega (count, arith))

-- what flips tell of those that were lent they tell of all
pub told_whole : (len : ℕ) (done items lent : List Watching) (filters : List Watched)
    (before last : Flipped) → len ≡ length done → map view_of_watch lent ≡ filters
    → (last.lost ≡ false → TellsFrom 0 (holding (map view_of_watch lent))
    (holding (map view_of_watch done)) before last)
    → TellsIfKnown (holding filters)
    (holding (map view_of_watch (take len (done ++ drop (length done) items)))) before last
told_whole len done items lent filters before last count old told =
    subst (λ (l : List Watching). TellsIfKnown (holding filters) (holding (map view_of_watch l))
    before last) (sym (whole len done items count))
    (subst (λ (l : List Watched). TellsIfKnown (holding l) (holding (map view_of_watch done))
    before last) old
    (λ known. from_all (map view_of_watch lent) (map view_of_watch done) before last (told known)))
