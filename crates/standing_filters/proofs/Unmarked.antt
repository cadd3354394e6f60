-- Keys on which no filter has a verdict, found filter by filter.
use Rattle.std.proofs.Common.{◌≡◌, ℕ, zero, suc, ◌+◌, ◌<◌, ◌≤◌, List, [], ◌∷◌, get_or, length, map}
use Rattle.std.proofs.Common.{arith, subst, take}
use Rattle.standing_filters.specs.Plans.{Watching, kept_by, view_of_watch}
use Rattle.standing_filters.specs.Verdicts.{out}
use Rattle.standing_filters.specs.Watched.{HaveNone, Watched, verdict_at}

next : (key : List ℕ) (i : ℕ) (ws : List Watching) (d : Watching) → i < length ws
    → HaveNone key (take i (map view_of_watch ws)) → verdict_at (kept_by (get_or ws i d)) key ≡ out
    → HaveNone key (take (suc i) (map view_of_watch ws))
next key i [] d inside none here = absurd (omega (arith, inside))
next key zero (w ∷ ws) d inside none here = (here, tt)
next key (suc i) (w ∷ ws) d inside none here =
    (none.0, next key i ws d (omega (arith, inside)) none.1 here)

-- one filter more has none
pub one_more_none : (key : List ℕ) (i : ℕ) (ws : List Watching) (d : Watching) → i < length ws
    → HaveNone key (take i (map view_of_watch ws)) → verdict_at (kept_by (get_or ws i d)) key ≡ out
    → HaveNone key (take (i + 1) (map view_of_watch ws))
one_more_none key i ws d inside none here =
    let one : suc i ≡ i + 1 = omega arith in
    subst (λ n. HaveNone key (take n (map view_of_watch ws))) one (next key i ws d inside none here)

-- all have
pub whole_none : (key : List ℕ) (n : ℕ) (ws : List Watching) → length ws ≤ n
    → HaveNone key (take n (map view_of_watch ws)) → HaveNone key (map view_of_watch ws)
whole_none key n [] all none = tt
whole_none key zero (w ∷ ws) all none = absurd (omega (arith, all))
whole_none key (suc n) (w ∷ ws) all none = (none.0, whole_none key n ws (omega (arith, all)) none.1)
